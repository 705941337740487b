-- The last change before a window and the first after it, among the regions of eight periods.
use Rattle.std.proofs.Common.{inl, inr, ◌≡◌, ℕ, zero, suc, ◌+◌, ◌-◌, ◌*◌, ◌<◌, ◌≤◌, Bool, true, false, not, ◌&&◌, ◌||◌, cond, refl, sym, ap, subst, ◌∙◌, arith, List, ◌∷◌, map, Option, Some, None}
use Rattle.std.specs.Prelude.{IfSome, filter}
use Rattle.std.specs.List.{range_with_len}
use Rattle.std.specs.Option.{option_map, option_or}
use Rattle.std.proofs.lemmas.Bool.{and_from, and_parts, cases_eq, cases_lt}
use Rattle.critical_paths.specs.Event.{Events, is_first, is_last}
use Rattle.critical_paths.specs.Region.{IsCyclic, IsRegion, Region, region_from, region_to, regions_from}
use Rattle.critical_paths.proofs.Searches.{first_from_is, last_up_to_is}
use Rattle.critical_paths.proofs.Runs.{IsAround, around, first_tick, last_tick, not_first, not_last, not_true, region_from_is, region_to_is, short_region}
use Rattle.slack_rows.specs.Window.{Window, Side, counts_after, counts_before, is_after, is_before, is_late, meets, side_of}
use Rattle.slack_rows.specs.Slack.{first_after, last_before}
use Rattle.slack_rows.specs.Laws.{IsPlaced}
use Rattle.slack_rows.proofs.Windows.{false_lt, le_true, true_le}
use Rattle.slack_rows.proofs.Regions.{region_down}
use Rattle.slack_rows.specs.Held.{first_item, last_item}
use Rattle.slack_rows.proofs.Nothing.{nothing_from, nothing_up_to}

both_false : (a b : Bool) → (a ≡ true → b ≡ true → (a && b) ≡ false) → (a && b) ≡ false
both_false true true not_both = not_both refl refl
both_false true false not_both = refl
both_false false b not_both = refl

module _ (p : ℕ) (ev : Events) (cyclic : IsCyclic p ev) (long : 2 ≤ p) (z : ℕ) (none : ev z ≡ false) (below_z : z < p) where
  -- ---- regions by their ends

  first_in : (f : ℕ) → is_first p ev f ≡ true → ev f ≡ true
  first_in f is = let parts = and_parts (ev f) (not (ev (f + (p - 1)))) is in parts.0

  last_in : (l : ℕ) → is_last ev l ≡ true → ev l ≡ true
  last_in l is = let parts = and_parts (ev l) (not (ev (l + 1))) is in parts.0

  first_again : (t : ℕ) → is_first p ev (t + p) ≡ is_first p ev t
  first_again t =
      let at : t + p + (p - 1) ≡ t + (p - 1) + p = omega arith in
      (λ i. cyclic t i && not (ev (t + p + (p - 1))))
      ∙ (λ i. ev t && not ((ap ev at ∙ cyclic (t + (p - 1))) i))

  last_again : (t : ℕ) → is_last ev (t + p) ≡ is_last ev t
  last_again t =
      let at : t + p + 1 ≡ t + 1 + p = omega arith in
      (λ i. cyclic t i && not (ev (t + p + 1)))
      ∙ (λ i. ev t && not ((ap ev at ∙ cyclic (t + 1)) i))

  -- the region that begins at a first tick
  pub begins : (f : ℕ) → is_first p ev f ≡ true → (l : ℕ) × IsRegion p ev f l
  begins f is = by (around p ev cyclic long z none below_z (f + p) (omega arith) (cyclic f ∙ first_in f is))
    where
      by : IsAround p ev cyclic long (f + p) → (l : ℕ) × IsRegion p ev f l
      by a =
          let from = a.from in
          let up_to = a.up_to in
          elim (cases_lt a.first (f + p)) [
            | inl less ↦ absurd (cc (sym (not_first p ev cyclic long a.first a.last a.region (f + p) less up_to) ∙ first_again f ∙ is))
            | inr more ↦
                let at : a.first - p ≡ f = omega (arith, from, more) in
                (a.last - p, subst (λ (u : ℕ). IsRegion p ev u (a.last - p)) at (region_down p ev cyclic long a.first a.last (omega (arith, more)) a.region))
          ]

  -- the region that ends at a last tick
  ends : (l : ℕ) → p ≤ l → is_last ev l ≡ true → (f : ℕ) × IsRegion p ev f l × (l < f + p)
  ends l deep is = by (around p ev cyclic long z none below_z l deep (last_in l is))
    where
      by : IsAround p ev cyclic long l → (f : ℕ) × IsRegion p ev f l × (l < f + p)
      by a =
          let up_to = a.up_to in
          elim (cases_lt l a.last) [
            | inl less ↦ absurd (cc (sym (not_last p ev cyclic long a.first a.last a.region l a.from less) ∙ is))
            | inr more ↦
                let at : a.last ≡ l = omega (arith, up_to, more) in
                (a.first, subst (λ (u : ℕ). IsRegion p ev a.first u) at a.region, a.near_first)
          ]

  -- ---- the last and the first of those that begin in a range and pass

  module _ (passes : Region → Bool) where
    abbrev pub passing : ℕ → ℕ → List Region
    passing i n = filter passes (regions_from p ev n i)

    pub record IsLastOf (i n : ℕ) (r : Region) : Type 0 where
      pub begin : is_first p ev r.first ≡ true
      pub from : i ≤ r.first
      pub below : r.first < i + n
      pub made : region_from p ev r.first ≡ r
      pub counts : passes r ≡ true
      pub after : (f : ℕ) → i ≤ f → f < i + n → is_first p ev f ≡ true → passes (region_from p ev f) ≡ true → f ≤ r.first

    pub record IsFirstOf (i n : ℕ) (r : Region) : Type 0 where
      pub begin : is_first p ev r.first ≡ true
      pub from : i ≤ r.first
      pub below : r.first < i + n
      pub made : region_from p ev r.first ≡ r
      pub counts : passes r ≡ true
      pub before : (f : ℕ) → i ≤ f → f < i + n → is_first p ev f ≡ true → passes (region_from p ev f) ≡ true → r.first ≤ f

    abbrev NoneOf : ℕ → ℕ → Type 0
    NoneOf i n = (f : ℕ) → i ≤ f → f < i + n → is_first p ev f ≡ true → passes (region_from p ev f) ≡ false

    -- the regions that begin in a range, by its first tick
    abbrev rest_of : ℕ → ℕ → List ℕ
    rest_of i n = filter (is_first p ev) (range_with_len (i + 1) n)

    abbrev head_by : ℕ → ℕ → Bool → Bool → List Region
    head_by i n true true = region_from p ev i ∷ filter passes (map (region_from p ev) (rest_of i n))
    head_by i n true false = filter passes (map (region_from p ev) (rest_of i n))
    head_by i n false c = filter passes (map (region_from p ev) (rest_of i n))

    head_is : (i n : ℕ) (b c : Bool) → is_first p ev i ≡ b → passes (region_from p ev i) ≡ c → passing i (suc n) ≡ head_by i n b c
    head_is i n b c first_is passes_is =
        ap (λ (x : Bool). filter passes (map (region_from p ev) (cond x (i ∷ rest_of i n) (rest_of i n)))) first_is ∙ by b
      where
        inner : (c : Bool) → passes (region_from p ev i) ≡ c →
            filter passes (map (region_from p ev) (i ∷ rest_of i n)) ≡ head_by i n true c
        inner true is = ap (λ (x : Bool). cond x (region_from p ev i ∷ filter passes (map (region_from p ev) (rest_of i n))) (filter passes (map (region_from p ev) (rest_of i n)))) is
        inner false is = ap (λ (x : Bool). cond x (region_from p ev i ∷ filter passes (map (region_from p ev) (rest_of i n))) (filter passes (map (region_from p ev) (rest_of i n)))) is

        by : (b : Bool) → filter passes (map (region_from p ev) (cond b (i ∷ rest_of i n) (rest_of i n))) ≡ head_by i n b c
        by true = inner c passes_is
        by false = refl

    widen_last : (i n : ℕ) (r : Region) → IsLastOf (i + 1) n r → IsLastOf i (suc n) r
    widen_last i n r found =
        let from = found.from in
        let below = found.below in
        record {
          begin = found.begin;
          from = omega (arith, from);
          below = omega (arith, below);
          made = found.made;
          counts = found.counts;
          after = λ f above under is counts. elim (cases_eq f i) [
            | inl same ↦ let at : i ≤ r.first = omega (arith, from) in omega (arith, same, at)
            | inr other ↦ found.after f (omega (arith, above, other)) (omega (arith, under)) is counts
          ];
        }

    here_last : (i n : ℕ) → is_first p ev i ≡ true → passes (region_from p ev i) ≡ true → NoneOf (i + 1) n → IsLastOf i (suc n) (region_from p ev i)
    here_last i n is counts later =
        record {
          begin = is;
          from = omega arith;
          below = omega arith;
          made = refl;
          counts = counts;
          after = λ f above under first passes_too. elim (cases_eq f i) [
            | inl same ↦ omega (arith, same)
            | inr other ↦ absurd (cc (sym (later f (omega (arith, above, other)) (omega (arith, under)) first) ∙ passes_too))
          ];
        }

    widen_none : (i n : ℕ) → NoneOf (i + 1) n → (is_first p ev i ≡ true → passes (region_from p ev i) ≡ false) → NoneOf i (suc n)
    widen_none i n later here f above under is = elim (cases_eq f i) [
      | inl same ↦ ap (λ (u : ℕ). passes (region_from p ev u)) same ∙ here (ap (is_first p ev) (sym same) ∙ is)
      | inr other ↦ later f (omega (arith, above, other)) (omega (arith, under)) is
    ]

    -- what is known of the last, whichever it is
    abbrev LastKnown : ℕ → ℕ → Option Region → Type 0
    LastKnown i n None = NoneOf i n
    LastKnown i n (Some r) = IsLastOf i n r

    last_step : (i n : ℕ) (b c : Bool) → is_first p ev i ≡ b → passes (region_from p ev i) ≡ c → (o : Option Region) →
        last_item (filter passes (map (region_from p ev) (rest_of i n))) ≡ o → LastKnown (i + 1) n o → LastKnown i (suc n) (last_item (head_by i n b c))
    last_step i n true true first_is passes_is None is known =
        subst (LastKnown i (suc n)) (ap (λ (o : Option Region). option_or o (Some (region_from p ev i))) (sym is)) (here_last i n first_is passes_is known)
    last_step i n true true first_is passes_is (Some r) is known =
        subst (LastKnown i (suc n)) (ap (λ (o : Option Region). option_or o (Some (region_from p ev i))) (sym is))
        (widen_last i n r known)
    last_step i n true false first_is passes_is None is known =
        subst (LastKnown i (suc n)) (sym is) (widen_none i n known (λ first. passes_is))
    last_step i n true false first_is passes_is (Some r) is known =
        subst (LastKnown i (suc n)) (sym is) (widen_last i n r known)
    last_step i n false c first_is passes_is None is known =
        subst (LastKnown i (suc n)) (sym is) (widen_none i n known (λ first. absurd (cc (sym first_is ∙ first))))
    last_step i n false c first_is passes_is (Some r) is known =
        subst (LastKnown i (suc n)) (sym is) (widen_last i n r known)

    pub last_known : (n i : ℕ) → LastKnown i n (last_item (passing i n))
    last_known zero i = λ f above under is. absurd (omega (arith, above, under))
    last_known (suc n) i =
        subst (LastKnown i (suc n)) (ap last_item (sym (head_is i n (is_first p ev i) (passes (region_from p ev i)) refl refl)))
        (last_step i n (is_first p ev i) (passes (region_from p ev i)) refl refl (last_item (passing (i + 1) n)) refl (last_known n (i + 1)))

    -- the same of the first
    abbrev FirstKnown : ℕ → ℕ → Option Region → Type 0
    FirstKnown i n None = NoneOf i n
    FirstKnown i n (Some r) = IsFirstOf i n r

    widen_first : (i n : ℕ) (r : Region) → IsFirstOf (i + 1) n r →
        (is_first p ev i ≡ true → passes (region_from p ev i) ≡ false) → IsFirstOf i (suc n) r
    widen_first i n r found here =
        let from = found.from in
        let below = found.below in
        record {
          begin = found.begin;
          from = omega (arith, from);
          below = omega (arith, below);
          made = found.made;
          counts = found.counts;
          before = λ f above under is counts. elim (cases_eq f i) [
            | inl same ↦ absurd (cc (sym (here (ap (is_first p ev) (sym same) ∙ is)) ∙ ap (λ (u : ℕ). passes (region_from p ev u)) (sym same) ∙ counts))
            | inr other ↦ found.before f (omega (arith, above, other)) (omega (arith, under)) is counts
          ];
        }

    here_first : (i n : ℕ) → is_first p ev i ≡ true → passes (region_from p ev i) ≡ true → IsFirstOf i (suc n) (region_from p ev i)
    here_first i n is counts =
        record {
          begin = is;
          from = omega arith;
          below = omega arith;
          made = refl;
          counts = counts;
          before = λ f above under first passes_too. above;
        }

    first_step : (i n : ℕ) (b c : Bool) → is_first p ev i ≡ b → passes (region_from p ev i) ≡ c → (o : Option Region) →
        first_item (filter passes (map (region_from p ev) (rest_of i n))) ≡ o → FirstKnown (i + 1) n o → FirstKnown i (suc n) (first_item (head_by i n b c))
    first_step i n true true first_is passes_is o is known = here_first i n first_is passes_is
    first_step i n true false first_is passes_is None is known =
        subst (FirstKnown i (suc n)) (sym is) (widen_none i n known (λ first. passes_is))
    first_step i n true false first_is passes_is (Some r) is known =
        subst (FirstKnown i (suc n)) (sym is) (widen_first i n r known (λ first. passes_is))
    first_step i n false c first_is passes_is None is known =
        subst (FirstKnown i (suc n)) (sym is) (widen_none i n known (λ first. absurd (cc (sym first_is ∙ first))))
    first_step i n false c first_is passes_is (Some r) is known =
        subst (FirstKnown i (suc n)) (sym is) (widen_first i n r known (λ first. absurd (cc (sym first_is ∙ first))))

    pub first_known : (n i : ℕ) → FirstKnown i n (first_item (passing i n))
    first_known zero i = λ f above under is. absurd (omega (arith, above, under))
    first_known (suc n) i =
        subst (FirstKnown i (suc n)) (ap first_item (sym (head_is i n (is_first p ev i) (passes (region_from p ev i)) refl refl)))
        (first_step i n (is_first p ev i) (passes (region_from p ev i)) refl refl (first_item (passing (i + 1) n)) refl (first_known n (i + 1)))

  -- ---- about a window

  module _ (side : Region → Side) (w : Window) (placed : IsPlaced p w) where
    -- what counts after the edge is found from the first tick on
    pub first_found : first_after p ev side w ≡ option_map (λ (r : Region). r.first) (first_item (passing (counts_after side w) 0 (8 * p)))
    first_found = by (first_item (passing (counts_after side w) 0 (8 * p))) (first_known (counts_after side w) (8 * p) 0)
      where
        by : (o : Option Region) → FirstKnown (counts_after side w) 0 (8 * p) o →
            first_after p ev side w ≡ option_map (λ (r : Region). r.first) o
        by None known =
            nothing_from (λ t. is_first p ev t && counts_after side w (region_from p ev t)) (8 * p) 0
            (λ u from below. both_false (is_first p ev u) (counts_after side w (region_from p ev u))
            (λ first counts. absurd (cc (sym (known u from below first) ∙ counts))))
        by (Some r) known =
            first_from_is (λ t. is_first p ev t && counts_after side w (region_from p ev t)) (8 * p) 0 r.first record {
              from = known.from;
              below = known.below;
              passes = and_from (is_first p ev r.first) (counts_after side w (region_from p ev r.first)) known.begin
                  (ap (counts_after side w) known.made ∙ known.counts);
              before = λ u above less. both_false (is_first p ev u) (counts_after side w (region_from p ev u))
                  (λ first counts. let sooner = known.before u above (let under = known.below in omega (arith, less, under)) first counts in absurd (omega (arith, sooner, less)));
            }

    -- a region that counts before the edge begins early enough
    counts_low : (r : Region) → r.first ≤ r.last → counts_before side w r ≡ true → r.first < 6 * p
    counts_low r ordered counts = by (is_before w r) refl counts
      where
        by : (b : Bool) → is_before w r ≡ b → (b || (meets w r && is_late (side_of side w r))) ≡ true → r.first < 6 * p
        by true is counts =
            let most = true_le r.last w.opens is in
            let some = placed.some in
            let end = placed.before_end in
            omega (arith, most, some, end, ordered)
        by false is counts =
            let parts = and_parts (meets w r) (is_late (side_of side w r)) counts in
            let sides = and_parts (not (is_before w r)) (not (is_after w r)) parts.0 in
            let near = false_lt w.closes r.first (not_true (is_after w r) sides.1) in
            let end = placed.before_end in
            omega (arith, near, end)

    -- the region of a last tick that counts, or that of a period later
    record IsCounted (u : ℕ) : Type 0 where
      first : ℕ
      last : ℕ
      region : IsRegion p ev first last
      under : first < 8 * p
      counts : counts_before side w (record { first = first; last = last }) ≡ true
      reaches : u ≤ last
      deep : p ≤ last

    itself : (u : ℕ) (c : IsCounted u) → IsCounted c.last
    itself u c =
        record {
          first = c.first;
          last = c.last;
          region = c.region;
          under = c.under;
          counts = c.counts;
          reaches = omega arith;
          deep = c.deep;
        }

    counted : (u : ℕ) → is_last ev u ≡ true → counts_before side w (region_to p ev u) ≡ true → IsCounted u
    counted u is counts = elim (cases_lt u p) [
      | inl small ↦ later (ends (u + p) (omega arith) (last_again u ∙ is)) small
      | inr deep ↦ own (ends u deep is) deep
    ]
      where
        later : (f : ℕ) × IsRegion p ev f (u + p) × (u + p < f + p) → u < p → IsCounted u
        later (f, region, near) small =
            let ordered = region.ordered in
            let start = placed.after_start in
            let before : is_before w (record { first = f; last = u + p }) ≡ true = le_true (u + p) w.opens (omega (arith, small, start)) in
            record {
              first = f;
              last = u + p;
              region = region;
              under = omega (arith, ordered, small, long);
              counts = ap (λ (b : Bool). b || (meets w (record { first = f; last = u + p }) && is_late (side_of side w (record { first = f; last = u + p })))) before;
              reaches = omega arith;
              deep = omega arith;
            }

        own : (f : ℕ) × IsRegion p ev f u × (u < f + p) → p ≤ u → IsCounted u
        own (f, region, near) deep =
            let ordered = region.ordered in
            let here : counts_before side w (record { first = f; last = u }) ≡ true =
            ap (counts_before side w) (sym (region_to_is p ev cyclic long f u region)) ∙ counts in
            let low = counts_low (record { first = f; last = u }) ordered here in
            record {
              first = f;
              last = u;
              region = region;
              under = omega (arith, low, long);
              counts = here;
              reaches = omega arith;
              deep = deep;
            }

    -- the last of all reaches as far as any that counts
    module _ (r : Region) (known : IsLastOf (counts_before side w) 0 (8 * p) r) (l : ℕ) (region : IsRegion p ev r.first l) where
      last_is : r.last ≡ l
      last_is = ap (λ (r : Region). r.last) (sym known.made ∙ region_from_is p ev cyclic long r.first l region)

      same_region : r ≡ record { first = r.first; last = l }
      same_region = sym known.made ∙ region_from_is p ev cyclic long r.first l region

      furthest : (u : ℕ) → IsCounted u → u ≤ l
      furthest u c =
          let counts_from : counts_before side w (region_from p ev c.first) ≡ true =
          ap (counts_before side w) (region_from_is p ev cyclic long c.first c.last c.region) ∙ c.counts in
          let no_later = known.after c.first (omega arith) (let under = c.under in omega (arith, under)) (first_tick p ev cyclic long c.first c.last c.region) counts_from in
          let reaches = c.reaches in
          elim (cases_lt l c.last) [
            | inl less ↦ beyond no_later less
            | inr more ↦ omega (arith, reaches, more)
          ]
        where
          beyond : c.first ≤ r.first → l < c.last → u ≤ l
          beyond no_later less = elim (cases_eq c.first r.first) [
            | inl same ↦
                let other : IsRegion p ev r.first c.last = subst (λ (f : ℕ). IsRegion p ev f c.last) same c.region in
                let one : l ≡ c.last = ap (λ (r : Region). r.last) (sym (region_from_is p ev cyclic long r.first l region) ∙ region_from_is p ev cyclic long r.first c.last other) in
                absurd (omega (arith, one, less))
            | inr other ↦
                let ordered = region.ordered in
                absurd (cc (sym (not_first p ev cyclic long c.first c.last c.region r.first (omega (arith, no_later, other)) (omega (arith, ordered, less))) ∙ known.begin))
          ]

      made_to : region_to p ev r.last ≡ r
      made_to = ap (region_to p ev) last_is ∙ region_to_is p ev cyclic long r.first l region ∙ sym same_region

      here_counts : counts_before side w (region_to p ev l) ≡ true
      here_counts = ap (counts_before side w) (region_to_is p ev cyclic long r.first l region ∙ sym same_region) ∙ known.counts

      is_here_last : is_last ev l ≡ true
      is_here_last = last_tick p ev cyclic long r.first l region

      found : last_before p ev side w ≡ Some r.last
      found =
          let c = counted l is_here_last here_counts in
          let deep = c.deep in
          let far = furthest c.last (itself l c) in
          let ordered = region.ordered in
          let short = short_region p ev cyclic long r.first l region in
          let low = counts_low r (let same = last_is in omega (arith, same, ordered)) known.counts in
          last_up_to_is (λ t. is_last ev t && counts_before side w (region_to p ev t)) (8 * p) (8 * p) l (omega (arith, deep, far, long)) record {
            up_to = omega (arith, low, short, long);
            passes = and_from (is_last ev l) (counts_before side w (region_to p ev l)) is_here_last here_counts;
            after = λ u above up_to. both_false (is_last ev u) (counts_before side w (region_to p ev u))
                (λ is counts. let no_further = furthest u (counted u is counts) in absurd (omega (arith, no_further, above)));
          }
          ∙ ap Some (sym last_is)

    pub last_found : last_before p ev side w ≡ option_map (λ (r : Region). r.last) (last_item (passing (counts_before side w) 0 (8 * p)))
    last_found = by (last_item (passing (counts_before side w) 0 (8 * p))) (last_known (counts_before side w) (8 * p) 0)
      where
        by : (o : Option Region) → LastKnown (counts_before side w) 0 (8 * p) o →
            last_before p ev side w ≡ option_map (λ (r : Region). r.last) o
        by None known =
            nothing_up_to (λ t. is_last ev t && counts_before side w (region_to p ev t)) (8 * p) (8 * p)
            (λ u up_to. both_false (is_last ev u) (counts_before side w (region_to p ev u))
            (λ is counts. none_counts u (counted u is counts)))
          where
            none_counts : {A : Type 0} (u : ℕ) → IsCounted u → A
            none_counts u c = absurd (cc (sym (known c.first (omega arith) (let under = c.under in omega (arith, under)) (first_tick p ev cyclic long c.first c.last c.region))
                ∙ ap (counts_before side w) (region_from_is p ev cyclic long c.first c.last c.region) ∙ c.counts))
        by (Some r) known = let begun = begins r.first known.begin in found r known begun.0 begun.1

    -- both are regions by their own ends
    pub last_made : IfSome (last_item (passing (counts_before side w) 0 (8 * p))) (λ r. region_to p ev r.last ≡ r)
    last_made = by (last_item (passing (counts_before side w) 0 (8 * p))) (last_known (counts_before side w) (8 * p) 0)
      where
        by : (o : Option Region) → LastKnown (counts_before side w) 0 (8 * p) o → IfSome o (λ r. region_to p ev r.last ≡ r)
        by None known = tt
        by (Some r) known = let begun = begins r.first known.begin in made_to r known begun.0 begun.1

    pub first_made : IfSome (first_item (passing (counts_after side w) 0 (8 * p))) (λ r. region_from p ev r.first ≡ r)
    first_made = by (first_item (passing (counts_after side w) 0 (8 * p))) (first_known (counts_after side w) (8 * p) 0)
      where
        by : (o : Option Region) → FirstKnown (counts_after side w) 0 (8 * p) o → IfSome o (λ r. region_from p ev r.first ≡ r)
        by None known = tt
        by (Some r) known = known.made
