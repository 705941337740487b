-- Regions as runs of events.
use Rattle.std.proofs.Common.{inl, inr, ◌≡◌, ℕ, zero, suc, ◌+◌, ◌-◌, ◌*◌, ◌<◌, ◌≤◌, Bool, true, false, not, ◌&&◌, refl, sym, ap, ◌∙◌, arith, Option, Some, None}
use Rattle.std.specs.Prelude.{unwrap_or}
use Rattle.std.proofs.lemmas.Bool.{cases_eq, cases_lt, and_parts, and_from}
use Rattle.critical_paths.specs.Event.{Events, is_first, is_last}
use Rattle.critical_paths.specs.Region.{Region, first_from, last_up_to, region_from, region_to, IsCyclic, IsRegion}
use Rattle.critical_paths.proofs.Searches.{IsFirst, IsLast, first_is, first_from_is, last_is, last_up_to_is}

pub not_false : (b : Bool) → b ≡ false → not b ≡ true
not_false b is = ap not is

pub not_true : (b : Bool) → not b ≡ true → b ≡ false
not_true true is = absurd (cc)
not_true false is = refl

module _ (p : ℕ) (ev : Events) (cyclic : IsCyclic p ev) (long : 2 ≤ p) where
  -- the tick before
  pub before_tick : (t : ℕ) → 1 ≤ t → ev (t + (p - 1)) ≡ ev (t - 1)
  before_tick t some =
      let at : t + (p - 1) ≡ t - 1 + p = omega (arith, some, long) in
      ap ev at ∙ cyclic (t - 1)

  -- ---- each tick between

  -- no tick is the last up to the next one
  goes_on : (t n : ℕ) → ev t ≡ true → ((u : ℕ) → t ≤ u → u < t + n → is_last ev u ≡ false) →
      (u : ℕ) → t ≤ u → u ≤ t + n → ev u ≡ true
  goes_on t zero here none u from up_to = let same : u ≡ t = omega (arith, from, up_to) in
      ap ev same ∙ here
  goes_on t (suc n) here none u from up_to = elim (cases_eq u (t + suc n)) [
    | inr other ↦ goes_on t n here (λ v above below. none v above (omega (arith, below))) u from
        (omega (arith, up_to, other))
    | inl same ↦
        let last : ev (t + n) ≡ true = goes_on t n here
        (λ v above below. none v above (omega (arith, below))) (t + n) (omega arith)
        (omega arith) in
        let is : is_last ev (t + n) ≡ false = none (t + n) (omega arith) (omega arith) in
        let at : u ≡ t + n + 1 = omega (arith, same) in
        ap ev at ∙ by (ev (t + n)) (ev (t + n + 1)) last is
  ]
    where
      by : (a b : Bool) → a ≡ true → (a && not b) ≡ false → b ≡ true
      by true true h e = refl
      by true false h e = absurd (cc)
      by false b h e = absurd (cc)

  -- nor the first
  goes_down : (t n : ℕ) → n ≤ t → ev t ≡ true →
      ((u : ℕ) → t < u + n → u ≤ t → is_first p ev u ≡ false) → (u : ℕ) → t ≤ u + n → u ≤ t → ev u
      ≡ true
  goes_down t zero deep here none u from up_to = let same : u ≡ t = omega (arith, from, up_to) in
      ap ev same ∙ here
  goes_down t (suc n) deep here none u from up_to = elim (cases_eq (u + suc n) t) [
    | inr other ↦ goes_down t n (omega (arith, deep)) here
        (λ v above below. none v (omega (arith, above)) below) u (omega (arith, from, other)) up_to
    | inl same ↦
        let next : ev (u + 1) ≡ true = goes_down t n (omega (arith, deep)) here
        (λ v above below. none v (omega (arith, above)) below) (u + 1) (omega (arith, same))
        (omega (arith, same)) in
        let is : is_first p ev (u + 1) ≡ false = none (u + 1) (omega (arith, same))
        (omega (arith, same)) in
        let at : u + 1 - 1 ≡ u = omega arith in
        sym (before_tick (u + 1) (omega arith) ∙ ap ev at) ∙ by (ev (u + 1)) (ev (u + 1 + (p - 1)))
        next is
  ]
    where
      by : (a b : Bool) → a ≡ true → (a && not b) ≡ false → b ≡ true
      by true true h e = refl
      by true false h e = absurd (cc)
      by false b h e = absurd (cc)

  -- ---- a region about a tick

  pub record IsGap (x y : ℕ) : Type 0 where
    pub from : x ≤ y
    pub below : y < x + p
    pub none : ev y ≡ false

  -- where some slot has no event, each period has a tick without one
  pub gap_from : (z : ℕ) → ev z ≡ false → z < p → (x : ℕ) → (y : ℕ) × IsGap x y
  gap_from z none below zero = (
    z,
    record {
      from = omega arith;
      below = omega (arith, below);
      none = none;
    },
  )
  gap_from z none below (suc x) = by (gap_from z none below x)
    where
      by : (y : ℕ) × IsGap x y → (y : ℕ) × IsGap (suc x) y
      by (y, gap) =
          let from = gap.from in
          let near = gap.below in
          elim (cases_eq y x) [
            | inl same ↦ (
              y + p,
              record {
                from = omega (arith, from, long);
                below = omega (arith, same);
                none = cyclic y ∙ gap.none;
              },
            )
            | inr other ↦ (
              y,
              record {
                from = omega (arith, from, other);
                below = omega (arith, near);
                none = gap.none;
              },
            )
          ]

  -- the last tick from an event on, before a tick without one
  next_last : (n x : ℕ) → ev x ≡ true → ev (x + n) ≡ false → (l : ℕ) × IsFirst (is_last ev) n x l
  next_last zero x here none = let at : x + 0 ≡ x = omega arith in
      absurd (cc (sym here ∙ ap ev (sym at) ∙ none))
  next_last (suc n) x here none =
      let at : x + 1 + n ≡ x + suc n = omega arith in
      by (ev (x + 1)) refl (λ is. next_last n (x + 1) is (ap ev at ∙ none))
    where
      here_is : (b : Bool) → ev (x + 1) ≡ b → is_last ev x ≡ not b
      here_is b is = ap (λ c. c && not (ev (x + 1))) here ∙ ap not is

      by : (b : Bool) → ev (x + 1) ≡ b → (ev (x + 1) ≡ true →
          (l : ℕ) × IsFirst (is_last ev) n (x + 1) l) → (l : ℕ) × IsFirst (is_last ev) (suc n) x l
      by false is rest = (
        x,
        record {
          from = omega arith;
          below = omega arith;
          passes = here_is false is;
          before = λ u above less. absurd (omega (arith, above, less));
        },
      )
      by true is rest = further (rest is)
        where
          further : (l : ℕ) × IsFirst (is_last ev) n (x + 1) l →
              (l : ℕ) × IsFirst (is_last ev) (suc n) x l
          further (l, found) =
              let from = found.from in
              let below = found.below in (
                l,
                record {
                  from = omega (arith, from);
                  below = omega (arith, below);
                  passes = found.passes;
                  before = λ u above less. elim (cases_eq u x) [
                    | inl same ↦ ap (is_last ev) same ∙ here_is true is
                    | inr other ↦ found.before u (omega (arith, above, other)) less
                  ];
                },
              )

  -- the first tick up to an event, after a tick without one
  past_first : (n y : ℕ) → ev y ≡ false → ev (y + n) ≡ true →
      (f : ℕ) × (y < f) × IsLast (is_first p ev) n (y + n) f
  past_first zero y none here = let at : y + 0 ≡ y = omega arith in
      absurd (cc (sym here ∙ ap ev at ∙ none))
  past_first (suc n) y none here = by (ev (y + n)) refl (λ is. past_first n y none is)
    where
      next : y + suc n ≡ y + n + 1
      next = omega arith

      earlier : y + suc n - 1 ≡ y + n
      earlier = omega arith

      here_is : (b : Bool) → ev (y + n) ≡ b → is_first p ev (y + suc n) ≡ not b
      here_is b is =
          ap (λ c. c && not (ev (y + suc n + (p - 1)))) here
          ∙ ap not (before_tick (y + suc n) (omega arith) ∙ ap ev earlier ∙ is)

      by : (b : Bool) → ev (y + n) ≡ b → (ev (y + n) ≡ true →
          (f : ℕ) × (y < f) × IsLast (is_first p ev) n (y + n) f) →
          (f : ℕ) × (y < f) × IsLast (is_first p ev) (suc n) (y + suc n) f
      by false is rest = (
        y + suc n,
        omega arith,
        record {
          up_to = omega arith;
          passes = here_is false is;
          after = λ u above less. absurd
              (omega (arith, above, less));
        },
      )
      by true is rest = further (rest is)
        where
          further : (f : ℕ) × (y < f) × IsLast (is_first p ev) n (y + n) f →
              (f : ℕ) × (y < f) × IsLast (is_first p ev) (suc n) (y + suc n) f
          further (f, above, found) =
              let up_to = found.up_to in (
                f,
                above,
                record {
                  up_to = omega (arith, up_to);
                  passes = found.passes;
                  after = λ u over less. elim (cases_eq u (y + suc n)) [
                    | inl same ↦ ap (is_first p ev) same ∙ here_is true is
                    | inr other ↦ found.after u over (omega (arith, less, other))
                  ];
                },
              )

  first_parts : (f : ℕ) → is_first p ev f ≡ true → ev (f + (p - 1)) ≡ false
  first_parts f is = let parts = and_parts (ev f) (not (ev (f + (p - 1)))) is in
      not_true (ev (f + (p - 1))) parts.1

  last_parts : (l : ℕ) → is_last ev l ≡ true → ev (l + 1) ≡ false
  last_parts l is = let parts = and_parts (ev l) (not (ev (l + 1))) is in
      not_true (ev (l + 1)) parts.1

  -- the region of an event
  pub record IsAround (x : ℕ) : Type 0 where
    pub first : ℕ
    pub last : ℕ
    pub region : IsRegion p ev first last
    pub from : first ≤ x
    pub up_to : x ≤ last
    pub near_first : x < first + p
    pub near_last : last < x + p

  pub around : (z : ℕ) → ev z ≡ false → z < p → (x : ℕ) → p ≤ x → ev x ≡ true → IsAround x
  around z none below x deep here = by (gap_from z none below x) (gap_from z none below (x - p))
    where
      by : (y : ℕ) × IsGap x y → (y : ℕ) × IsGap (x - p) y → IsAround x
      by (y, gap) (y', gap') =
          let from = gap.from in
          let near = gap.below in
          let from' = gap'.from in
          let near' = gap'.below in
          let up : x + (y - x) ≡ y = omega (arith, from) in
          let down : y' + (x - y') ≡ x = omega (arith, near', deep) in
          both (next_last (y - x) x here (ap ev up ∙ gap.none))
          (past_first (x - y') y' gap'.none (ap ev down ∙ here))
        where
          both : (l : ℕ) × IsFirst (is_last ev) (y - x) x l →
              (f : ℕ) × (y' < f) × IsLast (is_first p ev) (x - y') (y' + (x - y')) f → IsAround x
          both (l, last) (f, above, first) =
              let from = gap.from in
              let near = gap.below in
              let from' = gap'.from in
              let near' = gap'.below in
              let last_from = last.from in
              let last_below = last.below in
              let first_up_to = first.up_to in
              let down : y' + (x - y') ≡ x = omega (arith, near', deep) in
              let first_passes = first.passes in
              let last_passes = last.passes in
              let f_is = and_parts (ev f) (not (ev (f + (p - 1)))) first_passes in
              record {
                first = f;
                last = l;
                region = record {
                  ordered = omega (arith, last_from, first_up_to, down);
                  each = λ t over under. elim (cases_lt x t) [
                    | inl more ↦ goes_on x (l - x) here (λ u a b. last.before u a
                        (omega (arith, b, last_from))) t (omega (arith, more))
                        (omega (arith, under, last_from))
                    | inr less ↦ goes_down x (x - f) (omega arith) here
                        (λ u a b. first.after u (omega (arith, a, first_up_to, down))
                        (omega (arith, b, down))) t (omega (arith, over, first_up_to, down))
                        less
                  ];
                  before = first_parts f first_passes;
                  after = last_parts l last_passes;
                };
                from = omega (arith, first_up_to, down);
                up_to = last_from;
                near_first = omega (arith, above, from', deep);
                near_last = omega (arith, last_below, near, from);
              }

  -- ---- both ends of a region tell the other

  pub short_region : (f l : ℕ) → IsRegion p ev f l → l < f + (p - 1)
  short_region f l r = elim (cases_lt l (f + (p - 1))) [
    | inl less ↦ less
    | inr more ↦ let here = r.each (f + (p - 1)) (omega arith) more in
        absurd (cc (sym r.before ∙ here))
  ]

  pub last_tick : (f l : ℕ) → IsRegion p ev f l → is_last ev l ≡ true
  last_tick f l r = let ordered = r.ordered in and_from (ev l) (not (ev (l + 1)))
      (r.each l ordered (omega arith)) (not_false (ev (l + 1)) r.after)

  pub first_tick : (f l : ℕ) → IsRegion p ev f l → is_first p ev f ≡ true
  first_tick f l r = let ordered = r.ordered in and_from (ev f) (not (ev (f + (p - 1))))
      (r.each f (omega arith) ordered) (not_false (ev (f + (p - 1))) r.before)

  pub not_last : (f l : ℕ) → IsRegion p ev f l → (u : ℕ) → f ≤ u → u < l → is_last ev u ≡ false
  not_last f l r u from less =
      let next : ev (u + 1) ≡ true = r.each (u + 1) (omega (arith, from)) (omega (arith, less)) in
      by (ev u) (ev (u + 1)) next
    where
      by : (a b : Bool) → b ≡ true → (a && not b) ≡ false
      by true true h = refl
      by false true h = refl
      by true false h = absurd (cc)
      by false false h = absurd (cc)

  pub not_first : (f l : ℕ) → IsRegion p ev f l → (u : ℕ) → f < u → u ≤ l → is_first p ev u ≡ false
  not_first f l r u more up_to =
      let before : ev (u - 1) ≡ true = r.each (u - 1) (omega (arith, more)) (omega (arith, up_to))
      in
      by (ev u) (ev (u + (p - 1))) (before_tick u (omega (arith, more)) ∙ before)
    where
      by : (a b : Bool) → b ≡ true → (a && not b) ≡ false
      by true true h = refl
      by false true h = refl
      by true false h = absurd (cc)
      by false false h = absurd (cc)

  pub region_from_is : (f l : ℕ) → IsRegion p ev f l → region_from p ev f
      ≡ record { first = f; last = l }
  region_from_is f l r =
      let short = short_region f l r in
      let ordered = r.ordered in
      let found : first_from (is_last ev) p f ≡ Some l = first_from_is (is_last ev) p f l record {
        from = ordered;
        below = omega (arith, short, long);
        passes = last_tick f l r;
        before = not_last f l r;
      } in
      ap (λ (o : Option ℕ). let made : Region = record { first = f; last = unwrap_or o f } in made)
      found

  pub region_to_is : (f l : ℕ) → IsRegion p ev f l → region_to p ev l
      ≡ record { first = f; last = l }
  region_to_is f l r =
      let short = short_region f l r in
      let ordered = r.ordered in
      let found : last_up_to (is_first p ev) p l ≡ Some f = last_up_to_is (is_first p ev) p l f
      (omega (arith, short, long)) record {
        up_to = ordered;
        passes = first_tick f l r;
        after = not_first f l r;
      } in
      ap (λ (o : Option ℕ). let made : Region = record { first = unwrap_or o l; last = l } in made)
      found

  -- ---- each tick of a region that is found

  each_from : (f : ℕ) (o : Option ℕ) → first_from (is_last ev) p f ≡ o → ev f ≡ true → (t : ℕ) →
      f ≤ t → t ≤ unwrap_or o f → ev t ≡ true
  each_from f None is here t from up_to = let same : t ≡ f = omega (arith, from, up_to) in
      ap ev same ∙ here
  each_from f (Some l) is here t from up_to =
      let found = first_is (is_last ev) p f l is in
      let found_from = found.from in
      goes_on f (l - f) here (λ u a b. found.before u a (omega (arith, b, found_from))) t from
      (omega (arith, up_to, found_from))

  pub region_from_each : (f : ℕ) → ev f ≡ true → (t : ℕ) → f ≤ t → t ≤ (region_from p ev f).last →
      ev t ≡ true
  region_from_each f here = each_from f (first_from (is_last ev) p f) refl here

  each_to : (l : ℕ) (o : Option ℕ) → last_up_to (is_first p ev) p l ≡ o → ev l ≡ true → (t : ℕ) →
      unwrap_or o l ≤ t → t ≤ l → ev t ≡ true
  each_to l None is here t from up_to = let same : t ≡ l = omega (arith, from, up_to) in ap ev same
      ∙ here
  each_to l (Some f) is here t from up_to =
      let found = last_is (is_first p ev) p l f is in
      let found_to = found.up_to in
      goes_down l (l - f) (omega arith) here (λ u a b. found.after u (omega (arith, a, found_to)) b)
      t (omega (arith, from, found_to)) up_to

  pub region_to_each : (l : ℕ) → ev l ≡ true → (t : ℕ) → (region_to p ev l).first ≤ t → t ≤ l → ev t
      ≡ true
  region_to_each l here = each_to l (last_up_to (is_first p ev) p l) refl here

  pub region_to_ordered : (l : ℕ) → (region_to p ev l).first ≤ l
  region_to_ordered l = by (last_up_to (is_first p ev) p l) refl
    where
      by : (o : Option ℕ) → last_up_to (is_first p ev) p l ≡ o → unwrap_or o l ≤ l
      by None is = omega arith
      by (Some f) is = let found = last_is (is_first p ev) p l f is in found.up_to

  pub region_from_ordered : (f : ℕ) → f ≤ (region_from p ev f).last
  region_from_ordered f = by (first_from (is_last ev) p f) refl
    where
      by : (o : Option ℕ) → first_from (is_last ev) p f ≡ o → f ≤ unwrap_or o f
      by None is = omega arith
      by (Some l) is = let found = first_is (is_last ev) p f l is in found.from

  -- ---- some event, and events in every slot

  pub repeats : (k t : ℕ) → ev (t + k * p) ≡ ev t
  repeats zero t = let at : t + 0 * p ≡ t = grind arith in ap ev at
  repeats (suc k) t = let at : t + suc k * p ≡ t + k * p + p = grind arith in ap ev at
      ∙ cyclic (t + k * p) ∙ repeats k t
