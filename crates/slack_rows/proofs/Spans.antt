-- From a rise of a clock to its fall: a checker has a fault exactly where its input may change in one of the windows.
use Rattle.std.proofs.Common.{inl, inr, ◌≡◌, ℕ, zero, suc, ◌+◌, ◌-◌, ◌*◌, ◌/◌, ◌%◌, ◌<◌, ◌≤◌, Bool, true, false, not, ◌&&◌, cond, refl, sym, ap, subst, ◌∙◌, arith, map, Option, Some, None}
use Rattle.std.specs.Prelude.{◌==◌, filter_map, is_none}
use Rattle.std.specs.List.{AllByRecursion, cons_option, range_with_len}
use Rattle.std.specs.Option.{option_map}
use Rattle.std.proofs.lemmas.Bool.{and_parts, and_from, cases_eq, cases_lt, eq-eqb, ne_eqb}
use Rattle.std.proofs.Math.Nat.{mod-add-div', mod-lt}
use Rattle.scald_base.specs.Clock.{back}
use Rattle.step_values.specs.Steps.{has, is_quiet}
use Rattle.element_kinds.specs.declared.kind.Kind.TheVariants.{RiseFall}
use Rattle.flat_circuit.specs.declared.limits.Limits.{Limits}
use Rattle.flat_circuit.specs.Limits.{setup_of, hold_of}
use Rattle.gate_eval.specs.Hold.{first_some}
use Rattle.gate_eval.proofs.Found.{first_some_beyond}
use Rattle.gate_eval.proofs.Held.{first_some_none}
use Rattle.point_check.specs.Window.{Folds, slot_at}
use Rattle.point_check.specs.Point.{all_round, falls_somewhere, first_low, high_window_to, last_fall, last_to, to_last_fall, window_of}
use Rattle.point_check.proofs.Firsts.{first_some_is}
use Rattle.critical_paths.specs.declared.direction.Direction.TheVariants.{Rise, Change}
use Rattle.critical_paths.specs.Event.{Events, events, moves}
use Rattle.critical_paths.specs.Region.{IsCyclic, Region, some_event}
use Rattle.slack_rows.specs.Window.{about}
use Rattle.slack_rows.specs.Watch.{fall_of, fall_within, falls_at, may_stay_high, span_at, span_by, span_watch, spans}
use Rattle.slack_rows.specs.Limit.{edge_limits}
use Rattle.slack_rows.specs.Laws.{IsPlaced, IsTouched, IsTouchedWatch, SomeOf}
use Rattle.slack_rows.proofs.Cycles.{in_slot, periods_on, slot_is}
use Rattle.slack_rows.proofs.Somewhere.{mapped_some, some_mapped}
use Rattle.slack_rows.proofs.Searched.{IsFaulty, IsHit}
use Rattle.slack_rows.proofs.Changes.{moving, unquiet}
use Rattle.slack_rows.proofs.Watched.{in_some_slot, some_tick}

-- ---- searches

-- what is found is found at a number of the range
pub record SomeFound {A : Type 0} (P : A → Type 0) (f : ℕ → Option A) (i n : ℕ) : Type 0 where
  pub number : ℕ
  pub from : i ≤ number
  pub below : number < i + n
  pub value : A
  pub is : f number ≡ Some value
  pub holds : P value

module _ {A : Type 0} (P : A → Type 0) (f : ℕ → Option A) where
  pub some_found : (i n : ℕ) → SomeFound P f i n → SomeOf P (filter_map f (range_with_len i n))
  some_found i zero found =
      let from = found.from in
      let below = found.below in
      absurd (omega (arith, from, below))
  some_found i (suc n) found = elim (cases_eq found.number i) [
    | inl same ↦ here (f i) (ap f (sym same) ∙ found.is)
    | inr other ↦
        let from = found.from in
        let below = found.below in
        later (f i) (some_found (i + 1) n record {
          number = found.number;
          from = omega (arith, from, other);
          below = omega (arith, below);
          value = found.value;
          is = found.is;
          holds = found.holds;
        })
  ]
    where
      here : (o : Option A) → o ≡ Some found.value → SomeOf P (cons_option o (filter_map f (range_with_len (i + 1) n)))
      here None is = absurd (cc)
      here (Some x) is = let same : found.value ≡ x = cc in inl (subst P same found.holds)

      later : (o : Option A) → SomeOf P (filter_map f (range_with_len (i + 1) n)) →
          SomeOf P (cons_option o (filter_map f (range_with_len (i + 1) n)))
      later None some = some
      later (Some x) some = inr some

  pub found_some : (i n : ℕ) → SomeOf P (filter_map f (range_with_len i n)) → SomeFound P f i n
  found_some i zero none = absurd none
  found_some i (suc n) some = by (f i) refl some (λ more. found_some (i + 1) n more)
    where
      later : SomeFound P f (i + 1) n → SomeFound P f i (suc n)
      later found =
          let from = found.from in
          let below = found.below in
          record {
            number = found.number;
            from = omega (arith, from);
            below = omega (arith, below);
            value = found.value;
            is = found.is;
            holds = found.holds;
          }

      by : (o : Option A) → f i ≡ o → SomeOf P (cons_option o (filter_map f (range_with_len (i + 1) n))) →
          (SomeOf P (filter_map f (range_with_len (i + 1) n)) → SomeFound P f (i + 1) n) → SomeFound P f i (suc n)
      by None is more rest = later (rest more)
      by (Some x) is (inl holds) rest = record { number = i; from = omega arith; below = omega arith; value = x; is = is; holds = holds }
      by (Some x) is (inr more) rest = later (rest more)

last_bounds : (test : ℕ → Bool) (n j : ℕ) → last_to test n ≡ Some j → (1 ≤ j) × (j ≤ n)
last_bounds test zero j is = absurd (cc)
last_bounds test (suc n) j is = by (test (suc n)) is (λ rest. last_bounds test n j rest)
  where
    by : (b : Bool) → cond b (Some (suc n)) (last_to test n) ≡ Some j → (last_to test n ≡ Some j → (1 ≤ j) × (j ≤ n)) → (1 ≤ j) × (j ≤ suc n)
    by true is rest = let same : suc n ≡ j = cc in (omega (arith, same), omega (arith, same))
    by false is rest = let (one, most) = rest is in (one, omega (arith, most))

high_none : (b : Bool) (j : ℕ) → cond b None (Some j) ≡ None → b ≡ true
high_none true j none = refl
high_none false j none = absurd (cc)

high_some : (b : Bool) (i j : ℕ) → cond b None (Some i) ≡ Some j → i ≡ j
high_some true i j is = absurd (cc)
high_some false i j is = cc

abbrev region : ℕ → ℕ → Region
region first last = record { first = first; last = last }

none_of : {A : Type 0} (o : Option A) → is_none o ≡ true → o ≡ None
none_of None is = refl
none_of (Some x) is = absurd (cc)

module _ (p : ℕ) (long : 2 ≤ p) (clock input : Folds) (clock_cyclic : (t : ℕ) → clock (t + p) ≡ clock t)
    (input_cyclic : (t : ℕ) → input (t + p) ≡ input t) (limits : Limits) (short : setup_of limits + hold_of limits ≤ p) where
  abbrev rises : Events
  rises = events Rise clock

  rises_cyclic : IsCyclic p rises
  rises_cyclic t = ap (λ v. has v false true) (clock_cyclic t)

  abbrev touched : Type 0
  touched = IsTouchedWatch (span_watch p (edge_limits limits) clock input)

  abbrev Faulty : Type 0
  Faulty = IsFaulty (window_of RiseFall p clock limits) p clock input

  at_slot : (x : ℕ) → is_quiet (input (x % p)) ≡ false → events Change input x ≡ true
  at_slot x moves = moving (input x) ∙ ap (λ v. not (is_quiet v)) (sym (in_slot p input input_cyclic x)) ∙ ap not moves

  -- ---- falls

  -- a rise at a tick, and how long after it the clock has fallen at last
  pub record IsFall (t fall : ℕ) : Type 0 where
    pub rises_there : has (clock t) false true ≡ true
    pub low : ℕ
    pub low_is : first_low p clock t ≡ Some low
    pub high : ℕ
    pub high_is : last_fall clock t low ≡ Some high
    pub fall_is : t + high ≡ fall
    pub some : 1 ≤ high
    pub most : high ≤ p

  low_most : (t low : ℕ) → first_low p clock t ≡ Some low → low ≤ p
  low_most t low is =
      let found = first_some_is (λ j. cond (has (clock (t + j)) true true) None (Some j)) p 1 low is in
      let same : found.at ≡ low = high_some (has (clock (t + found.at)) true true) found.at low found.is in
      let below = found.below in
      omega (arith, same, below)

  pub fall_parts : (t fall : ℕ) → fall_of p clock t ≡ Some fall → IsFall t fall
  fall_parts t fall is = by (has (clock t) false true) refl is
    where
      high_by : (low : ℕ) → first_low p clock t ≡ Some low → (o : Option ℕ) → last_fall clock t low ≡ o →
          option_map (λ high. t + high) o ≡ Some fall → has (clock t) false true ≡ true → IsFall t fall
      high_by low low_is None high_is is rises_there = absurd (cc)
      high_by low low_is (Some high) high_is is rises_there =
          let (some, most) = last_bounds (λ j. has (clock (t + j)) true false) low high high_is in
          let least = low_most t low low_is in
          record {
            rises_there = rises_there;
            low = low;
            low_is = low_is;
            high = high;
            high_is = high_is;
            fall_is = let same : t + high ≡ fall = cc in same;
            some = some;
            most = omega (arith, most, least);
          }

      low_by : (o : Option ℕ) → first_low p clock t ≡ o → fall_within clock t o ≡ Some fall → has (clock t) false true ≡ true → IsFall t fall
      low_by None low_is is rises_there = absurd (cc)
      low_by (Some low) low_is is rises_there = high_by low low_is (last_fall clock t low) refl is rises_there

      by : (b : Bool) → has (clock t) false true ≡ b → cond b (fall_within clock t (first_low p clock t)) None ≡ Some fall → IsFall t fall
      by true rises_there is = low_by (first_low p clock t) refl is rises_there
      by false rises_there is = absurd (cc)

  -- what its window is
  pub fall_window : (t fall : ℕ) (f : IsFall t fall) → window_of RiseFall p clock limits t ≡ Some (record { setup = setup_of limits; high = f.high; hold = hold_of limits })
  fall_window t fall f =
      ap (high_window_to p clock limits t) f.low_is ∙ ap (to_last_fall limits) f.high_is

  pub fall_from : (t low high : ℕ) → has (clock t) false true ≡ true → first_low p clock t ≡ Some low → last_fall clock t low ≡ Some high →
      fall_of p clock t ≡ Some (t + high)
  fall_from t low high rises_there low_is high_is =
      (λ i. cond (rises_there i) (fall_within clock t (low_is i)) None) ∙ ap (option_map (λ h. t + h)) high_is

  -- ---- a period on

  abbrev pub on : Option ℕ → Option ℕ
  on o = option_map (λ f. f + p) o

  clock_on : (t j : ℕ) → clock (t + p + j) ≡ clock (t + j)
  clock_on t j = let at : t + p + j ≡ t + j + p = omega arith in ap clock at ∙ clock_cyclic (t + j)

  low_on : (t : ℕ) → first_low p clock (t + p) ≡ first_low p clock t
  low_on t = λ i. first_some (λ j. cond (has (clock_on t j i) true true) None (Some j)) p 1

  within_on : (t : ℕ) (o : Option ℕ) → fall_within clock (t + p) o ≡ on (fall_within clock t o)
  within_on t None = refl
  within_on t (Some low) = (λ i. option_map (λ high. t + p + high) (last_to (λ j. has (clock_on t j i) true false) low)) ∙ by (last_fall clock t low)
    where
      by : (o : Option ℕ) → option_map (λ high. t + p + high) o ≡ on (option_map (λ high. t + high) o)
      by None = refl
      by (Some high) = let same : t + p + high ≡ t + high + p = omega arith in ap Some same

  pub fall_on : (t : ℕ) → fall_of p clock (t + p) ≡ on (fall_of p clock t)
  fall_on t =
      (λ i. cond (has (clock_cyclic t i) false true) (fall_within clock (t + p) (low_on t i)) None)
      ∙ ap (λ o. cond (has (clock t) false true) o None) (within_on t (first_low p clock t))
      ∙ by (has (clock t) false true) (fall_within clock t (first_low p clock t))
    where
      by : (b : Bool) (o : Option ℕ) → cond b (on o) None ≡ on (cond b o None)
      by true o = refl
      by false o = refl

  off : (o : Option ℕ) (e : ℕ) → on o ≡ Some (e + p) → o ≡ Some e
  off None e is = absurd (cc)
  off (Some f) e is = let same : f + p ≡ e + p = cc in let here : f ≡ e = omega (arith, same) in ap Some here

  -- a period before
  fall_off : (t e : ℕ) → fall_of p clock (t + p) ≡ Some (e + p) → fall_of p clock t ≡ Some e
  fall_off t e is = off (fall_of p clock t) e (sym (fall_on t) ∙ is)

  falls_then : (o : Option ℕ) (e : ℕ) → falls_at e o ≡ true → o ≡ Some e
  falls_then None e is = absurd (cc)
  falls_then (Some f) e is = ap Some (same_number f e is)
    where
      same_number : (f e : ℕ) → (f == e) ≡ true → f ≡ e
      same_number f e is = elim (cases_eq f e) [
        | inl same ↦ same
        | inr other ↦ absurd (cc (sym (ne_eqb f e other) ∙ is))
      ]

  falls_off : (o : Option ℕ) (e : ℕ) → falls_at (e + p) (on o) ≡ false → falls_at e o ≡ false
  falls_off None e is = refl
  falls_off (Some f) e is = elim (cases_eq f e) [
    | inl same ↦ let up : f + p ≡ e + p = omega (arith, same) in absurd (cc (sym (eq-eqb (f + p) (e + p) up) ∙ is))
    | inr other ↦ ne_eqb f e other
  ]

  -- ---- the first rise of those that fall together

  record IsRunFirst (e t : ℕ) : Type 0 where
    pub first : ℕ
    pub up_to : first ≤ t
    pub falls : fall_of p clock first ≡ Some e
    pub ends : falls_at (e + p) (fall_of p clock (first + (p - 1))) ≡ false

  before_is : (t e : ℕ) → 1 ≤ t → falls_at (e + p) (fall_of p clock (t + (p - 1))) ≡ true → fall_of p clock (t - 1) ≡ Some e
  before_is t e some falls =
      let here_at : t + (p - 1) ≡ t - 1 + p = omega (arith, some, long) in
      fall_off (t - 1) e (ap (fall_of p clock) (sym here_at) ∙ falls_then (fall_of p clock (t + (p - 1))) (e + p) falls)

  run_first : (n t e : ℕ) → p + 1 ≤ e → t + p ≡ e + n → fall_of p clock t ≡ Some e → IsRunFirst e t
  run_first zero t e deep at is = by (falls_at (e + p) (fall_of p clock (t + (p - 1)))) refl
    where
      by : (b : Bool) → falls_at (e + p) (fall_of p clock (t + (p - 1))) ≡ b → IsRunFirst e t
      by false ends = record { first = t; up_to = omega arith; falls = is; ends = ends }
      by true falls =
          let before = fall_parts (t - 1) e (before_is t e (omega (arith, at, deep)) falls) in
          let fall_is = before.fall_is in
          let most = before.most in
          absurd (omega (arith, fall_is, most, at, deep, long))
  run_first (suc n) t e deep at is =
      by (falls_at (e + p) (fall_of p clock (t + (p - 1)))) refl (λ before. run_first n (t - 1) e deep (omega (arith, at, deep)) before)
    where
      by : (b : Bool) → falls_at (e + p) (fall_of p clock (t + (p - 1))) ≡ b →
          (fall_of p clock (t - 1) ≡ Some e → IsRunFirst e (t - 1)) → IsRunFirst e t
      by false ends rest = record { first = t; up_to = omega arith; falls = is; ends = ends }
      by true falls rest =
          let found = rest (before_is t e (omega (arith, at, deep)) falls) in
          let up_to = found.up_to in
          record { first = found.first; up_to = omega (arith, up_to); falls = found.falls; ends = found.ends }

  -- a span that begins in the period, and a rise of it: in a slot, or a period on
  record IsSpanned (t high : ℕ) : Type 0 where
    pub first : ℕ
    pub last : ℕ
    pub tick : ℕ
    pub rounds : ℕ
    pub below : first < p
    pub span : span_at p clock first ≡ Some (record { first = first; last = last })
    pub tick_is : tick ≡ t + rounds * p
    pub from : first ≤ tick
    pub last_is : last ≡ tick + high

  span_is : (f e : ℕ) → fall_of p clock f ≡ Some e → falls_at (e + p) (fall_of p clock (f + (p - 1))) ≡ false →
      span_at p clock f ≡ Some (record { first = f; last = e })
  span_is f e falls ends =
      ap (span_by p clock f) falls ∙ ap (λ (b : Bool). cond b None (Some (region f e))) ends

  spanned : (t high : ℕ) → t < p → 1 ≤ high → high ≤ p → fall_of p clock t ≡ Some (t + high) → IsSpanned t high
  spanned t high inside some most is =
      let there : fall_of p clock (t + p) ≡ Some (t + high + p) = fall_on t ∙ ap on is in
      by (run_first (p - high) (t + p) (t + high + p) (omega (arith, some)) (omega (arith, most)) there)
    where
      by : IsRunFirst (t + high + p) (t + p) → IsSpanned t high
      by r =
          let up_to = r.up_to in
          elim (cases_lt r.first p) [
            | inl less ↦ record {
              first = r.first;
              last = t + high + p;
              tick = t + p;
              rounds = 1;
              below = less;
              span = span_is r.first (t + high + p) r.falls r.ends;
              tick_is = omega arith;
              from = up_to;
              last_is = omega arith;
            }
            | inr more ↦
                let down : r.first - p + p ≡ r.first = omega (arith, more) in
                let beside : r.first - p + (p - 1) + p ≡ r.first + (p - 1) = omega (arith, more) in
                record {
                  first = r.first - p;
                  last = t + high;
                  tick = t;
                  rounds = 0;
                  below = omega (arith, up_to, inside, more);
                  span = span_is (r.first - p) (t + high) (fall_off (r.first - p) (t + high) (ap (fall_of p clock) down ∙ r.falls))
                      (falls_off (fall_of p clock (r.first - p + (p - 1))) (t + high + p)
                      (ap (falls_at (t + high + p + p)) (sym (fall_on (r.first - p + (p - 1))) ∙ ap (fall_of p clock) beside) ∙ r.ends));
                  tick_is = omega arith;
                  from = omega (arith, up_to);
                  last_is = omega arith;
                }
          ]

  -- ---- a clock that may stay high

  high_at : (t : ℕ) → t < p → first_low p clock t ≡ None → (u : ℕ) → has (clock u) true true ≡ true
  high_at t inside none u =
      let v : ℕ = u + p - t - 1 in
      let split : (u + p - t - 1) % p + (u + p - t - 1) / p * p ≡ u + p - t - 1 = mod-add-div' (u + p - t - 1) p in
      let small : (u + p - t - 1) % p < p = mod-lt (u + p - t - 1) (omega (arith, long)) in
      let there : t + ((u + p - t - 1) % p + 1) + (u + p - t - 1) / p * p ≡ u + 1 * p = omega (arith, split, inside) in
      let is : has (clock (t + ((u + p - t - 1) % p + 1))) true true ≡ true =
      high_none (has (clock (t + ((u + p - t - 1) % p + 1))) true true) ((u + p - t - 1) % p + 1)
      (first_some_none (λ j. cond (has (clock (t + j)) true true) None (Some j)) p 1 ((u + p - t - 1) % p + 1) none (omega arith) (omega (arith, small))) in
      ap (λ v. has v true true) (sym (periods_on p clock clock_cyclic 1 u) ∙ ap clock (sym there)
      ∙ periods_on p clock clock_cyclic ((u + p - t - 1) / p) (t + ((u + p - t - 1) % p + 1)))
      ∙ is

  none_low : ((u : ℕ) → has (clock u) true true ≡ true) → (t : ℕ) → first_low p clock t ≡ None
  none_low high t =
      first_some_beyond (λ j. cond (has (clock (t + j)) true true) None (Some j)) p 1
      (λ j from below. ap (λ (b : Bool). cond b None (Some j)) (high (t + j)))

  -- ---- a fault is in a window

  in_span : (t place high : ℕ) → place < setup_of limits + high + hold_of limits →
      is_quiet (input (back p (t + 1 + place) (setup_of limits))) ≡ false → IsSpanned t high →
      SomeOf (IsTouched (events Change input)) (map (about p (edge_limits limits)) (spans p clock))
  in_span t place high within moves c =
      let from = c.from in
      let below = c.below in
      let tick_is = c.tick_is in
      let last_is = c.last_is in
      let rounds : (3 + c.rounds) * p ≡ 3 * p + c.rounds * p = grind arith in
      let slot : back p (t + 1 + place) (setup_of limits) ≡ (3 * p + c.tick + 1 + place - setup_of limits) % p =
      slot_is p t (3 + c.rounds) place (setup_of limits) (3 * p + c.tick + 1 + place - setup_of limits) (omega (arith, long))
      (omega (arith, rounds, tick_is, short)) in
      let touched : IsTouched (events Change input) (about p (edge_limits limits) (record { first = c.first; last = c.last })) = record {
        tick = 3 * p + c.tick + 1 + place - setup_of limits;
        after = omega (arith, from, short);
        within = omega (arith, within, last_is, short);
        is = at_slot (3 * p + c.tick + 1 + place - setup_of limits) (sym (ap (λ (z : ℕ). is_quiet (input z)) slot) ∙ moves);
      } in
      some_mapped (IsTouched (events Change input)) (about p (edge_limits limits)) (spans p clock)
      (some_found (λ r. IsTouched (events Change input) (about p (edge_limits limits) r)) (span_at p clock) 0 p record {
        number = c.first;
        from = omega arith;
        below = omega (arith, below);
        value = record { first = c.first; last = c.last };
        is = c.span;
        holds = touched;
      })

  pub span_touches : Faulty → touched
  span_touches faulty = by (first_low p clock faulty.tick) refl faulty.is
    where
      round : (b : Bool) → falls_somewhere p clock ≡ b → all_round p limits b ≡ Some faulty.window → first_low p clock faulty.tick ≡ None → touched
      round false falls is none = absurd (cc)
      round true falls is none =
          let below = faulty.below in
          inl (
            and_from (may_stay_high p clock) (some_event p rises && falls_somewhere p clock)
                (ap (λ (o : Option ℕ). is_none o) (none_low (high_at faulty.tick below none) 0))
                (and_from (some_event p rises) (falls_somewhere p clock)
                (in_some_slot p rises rises_cyclic long faulty.tick faulty.tick (omega (arith, below)) faulty.rises) falls),
            record {
              tick = slot_at p faulty.window faulty.tick faulty.hit.place;
              is = moving (input (slot_at p faulty.window faulty.tick faulty.hit.place)) ∙ ap not faulty.hit.moves;
            },
          )

      spanned_by : (low : ℕ) → first_low p clock faulty.tick ≡ Some low → (o : Option ℕ) → last_fall clock faulty.tick low ≡ o →
          to_last_fall limits o ≡ Some faulty.window → touched
      spanned_by low low_is None high_is is = absurd (cc)
      spanned_by low low_is (Some high) high_is is =
          let same : faulty.window ≡ record { setup = setup_of limits; high = high; hold = hold_of limits } = cc in
          let hit : IsHit p input faulty.tick (record { setup = setup_of limits; high = high; hold = hold_of limits }) = subst (λ w. IsHit p input faulty.tick w) same faulty.hit in
          let (some, most) = last_bounds (λ j. has (clock (faulty.tick + j)) true false) low high high_is in
          let least = low_most faulty.tick low low_is in
          inr (in_span faulty.tick hit.place high hit.within hit.moves
          (spanned faulty.tick high faulty.below some (omega (arith, most, least)) (fall_from faulty.tick low high faulty.rises low_is high_is)))

      by : (o : Option ℕ) → first_low p clock faulty.tick ≡ o → high_window_to p clock limits faulty.tick o ≡ Some faulty.window → touched
      by None none is = round (falls_somewhere p clock) refl is none
      by (Some low) low_is is = spanned_by low low_is (last_fall clock faulty.tick low) refl is

  -- ---- what is in a window is a fault

  found_in_span : SomeFound (λ r. IsTouched (events Change input) (about p (edge_limits limits) r)) (span_at p clock) 0 p → Faulty
  found_in_span found = by (fall_of p clock found.number) refl found.is
    where
      here : (fall : ℕ) → IsFall found.number fall → found.value ≡ record { first = found.number; last = fall } → Faulty
      here fall f same =
          let touched : IsTouched (events Change input) (about p (edge_limits limits) (record { first = found.number; last = fall })) =
          subst (λ r. IsTouched (events Change input) (about p (edge_limits limits) r)) same found.holds in
          let after = touched.after in
          let within = touched.within in
          let fall_is = f.fall_is in
          let below = found.below in
          let slot : back p (found.number + 1 + (touched.tick + setup_of limits - (3 * p + found.number + 1))) (setup_of limits) ≡ touched.tick % p =
          slot_is p found.number 3 (touched.tick + setup_of limits - (3 * p + found.number + 1)) (setup_of limits) touched.tick (omega (arith, long))
          (omega (arith, after, short)) in
          record {
            tick = found.number;
            below = omega (arith, below);
            rises = f.rises_there;
            window = record { setup = setup_of limits; high = f.high; hold = hold_of limits };
            is = fall_window found.number fall f;
            hit = record {
              place = touched.tick + setup_of limits - (3 * p + found.number + 1);
              within = omega (arith, after, within, fall_is, short);
              moves = ap (λ (z : ℕ). is_quiet (input z)) slot ∙ ap is_quiet (in_slot p input input_cyclic touched.tick) ∙ unquiet (input touched.tick) touched.is;
            };
          }

      kept : (b : Bool) (fall : ℕ) → fall_of p clock found.number ≡ Some fall →
          cond b None (Some (region found.number fall)) ≡ Some found.value → Faulty
      kept true fall falls is = absurd (cc)
      kept false fall falls is =
          let same : found.value ≡ record { first = found.number; last = fall } = cc in
          here fall (fall_parts found.number fall falls) same

      by : (o : Option ℕ) → fall_of p clock found.number ≡ o → span_by p clock found.number o ≡ Some found.value → Faulty
      by None falls is = absurd (cc)
      by (Some fall) falls is = kept (falls_at (fall + p) (fall_of p clock (found.number + (p - 1)))) fall falls is

  pub touched_spans : touched → Faulty
  touched_spans (inl (never, change)) =
      let parts = and_parts (may_stay_high p clock) (some_event p rises && falls_somewhere p clock) never in
      let more = and_parts (some_event p rises) (falls_somewhere p clock) parts.1 in
      let rise = some_tick p rises rises_cyclic long more.0 in
      let none : first_low p clock (rise.tick % p) ≡ None =
      none_low (high_at 0 (omega (arith, long)) (none_of (first_low p clock 0) parts.0)) (rise.tick % p) in
      let inside : rise.tick % p < p = mod-lt rise.tick (omega (arith, long)) in
      let split : (change.tick + setup_of limits + p - rise.tick % p - 1) % p + (change.tick + setup_of limits + p - rise.tick % p - 1) / p * p
      ≡ change.tick + setup_of limits + p - rise.tick % p - 1 = mod-add-div' (change.tick + setup_of limits + p - rise.tick % p - 1) p in
      let small : (change.tick + setup_of limits + p - rise.tick % p - 1) % p < p = mod-lt (change.tick + setup_of limits + p - rise.tick % p - 1) (omega (arith, long)) in
      let slot : back p (rise.tick % p + 1 + (change.tick + setup_of limits + p - rise.tick % p - 1) % p) (setup_of limits) ≡ (change.tick + p) % p =
      slot_is p (rise.tick % p) ((change.tick + setup_of limits + p - rise.tick % p - 1) / p) ((change.tick + setup_of limits + p - rise.tick % p - 1) % p) (setup_of limits) (change.tick + p)
      (omega (arith, long)) (omega (arith, split, inside)) in
      record {
        tick = rise.tick % p;
        below = inside;
        rises = in_slot p rises rises_cyclic rise.tick ∙ rise.is;
        window = record { setup = setup_of limits; high = p; hold = 0 };
        is = ap (high_window_to p clock limits (rise.tick % p)) none ∙ ap (all_round p limits) more.1;
        hit = record {
          place = (change.tick + setup_of limits + p - rise.tick % p - 1) % p;
          within = omega (arith, small);
          moves = ap (λ (z : ℕ). is_quiet (input z)) slot ∙ ap is_quiet (in_slot p input input_cyclic (change.tick + p) ∙ input_cyclic change.tick)
              ∙ unquiet (input change.tick) change.is;
        };
      }
  touched_spans (inr found) =
      found_in_span (found_some (λ r. IsTouched (events Change input) (about p (edge_limits limits) r)) (span_at p clock) 0 p
      (mapped_some (IsTouched (events Change input)) (about p (edge_limits limits)) (spans p clock) found))

  -- ---- where the windows lie

  span_placed : (f : ℕ) (r : Region) → f < p → span_at p clock f ≡ Some r → IsPlaced p (about p (edge_limits limits) r)
  span_placed f r below is = by (fall_of p clock f) refl is
    where
      kept : (b : Bool) (fall : ℕ) → fall_of p clock f ≡ Some fall → cond b None (Some (region f fall)) ≡ Some r → IsPlaced p (about p (edge_limits limits) r)
      kept true fall falls is = absurd (cc)
      kept false fall falls is =
          let same : region f fall ≡ r = cc in
          let parts = fall_parts f fall falls in
          let fall_is = parts.fall_is in
          let some = parts.some in
          let most = parts.most in
          subst (λ r. IsPlaced p (about p (edge_limits limits) r)) same record {
            after_start = omega (arith, short);
            some = omega (arith, fall_is, some, short);
            before_end = omega (arith, fall_is, most, below, short);
          }

      by : (o : Option ℕ) → fall_of p clock f ≡ o → span_by p clock f o ≡ Some r → IsPlaced p (about p (edge_limits limits) r)
      by None falls is = absurd (cc)
      by (Some fall) falls is = kept (falls_at (fall + p) (fall_of p clock (f + (p - 1)))) fall falls is

  placed_from : (n i : ℕ) → i + n ≤ p → AllByRecursion (IsPlaced p) (map (about p (edge_limits limits)) (filter_map (span_at p clock) (range_with_len i n)))
  placed_from zero i within = tt
  placed_from (suc n) i within = by (span_at p clock i) refl (placed_from n (i + 1) (omega (arith, within)))
    where
      by : (o : Option Region) → span_at p clock i ≡ o → AllByRecursion (IsPlaced p) (map (about p (edge_limits limits)) (filter_map (span_at p clock) (range_with_len (i + 1) n))) →
          AllByRecursion (IsPlaced p) (map (about p (edge_limits limits)) (cons_option o (filter_map (span_at p clock) (range_with_len (i + 1) n))))
      by None is rest = rest
      by (Some r) is rest = (span_placed i r (omega (arith, within)) is, rest)

  pub all_spans_placed : AllByRecursion (IsPlaced p) (map (about p (edge_limits limits)) (spans p clock))
  all_spans_placed = placed_from p 0 (omega arith)
