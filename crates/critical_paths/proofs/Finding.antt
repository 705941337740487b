-- Regions, found from change to change.
use Rattle.std.proofs.Common.{◌≡◌, ℕ, zero, suc, ◌+◌, ◌-◌, ◌%◌, ◌<◌, ◌≤◌, Bool, true, false, not, ◌&&◌, cond, List, [], ◌∷◌, ◌++◌, length, get_or, map, refl, sym, ap, ◌∙◌, arith, Option, Some, None, pos}
use Rattle.std.specs.Prelude.{slice_get, is_none, filter}
use Rattle.std.specs.List.{range_with_len}
use Rattle.std.proofs.lemmas.Bool.{and_from}
use Rattle.std.proofs.lemmas.List.{append-nil, map-append, map-id}
use Rattle.std.proofs.lemmas.List.Elements.{filter-append}
use Rattle.std.proofs.lemmas.List.FromFn.{map-range_with_len_more}
use Rattle.scald_base.proofs.Back.{back_zero, period_later}
use Rattle.step_values.specs.declared.value.Value.{Value}
use Rattle.step_values.specs.declared.value.Value.TheVariants.{U}
use Rattle.step_values.specs.Cell.{values}
use Rattle.wave_core.specs.Slots.{SameUntil, cell_round, earlier}
use Rattle.skew_algebra.proofs.Moves.{earlier_mod, here_cell}
use Rattle.critical_paths.specs.declared.region.Region.{Region as Ticks}
use Rattle.critical_paths.specs.declared.region.Test.{Test}
use Rattle.critical_paths.specs.Event.{Events, is_first}
use Rattle.critical_paths.specs.Region.{IsCyclic, IsRegion, all_events, first_from, region_from, regions_from}
use Rattle.critical_paths.specs.Views.{passes, passing, ticks_of_region}
use Rattle.critical_paths.proofs.Runs.{before_tick, not_true, region_from_is}
use Rattle.critical_paths.proofs.Searches.{first_from_is, first_is}

absent : (xs : List Value) (i : ℕ) → i < length xs → slice_get xs i ≡ None → ⊥
absent [] i below is = absurd (omega arith)
absent (x ∷ xs) zero below is = absurd (cc)
absent (x ∷ xs) (suc i) below is = absent xs i (omega (arith, below)) is

-- those that begin before a slot
abbrev pub so_far_of : Test → List Value → ℕ → List Ticks
so_far_of test cells n = map ticks_of_region (regions_from (length cells) (passing test cells) n 0)

module _ (test : Test) (cells : List Value) (long : 2 ≤ length cells) where
  abbrev pub p : ℕ
  p = length cells

  abbrev pub ev : Events
  ev = passing test cells

  pub at_cell : (t : ℕ) (v : Value) → t < p → slice_get cells t ≡ Some v → passes test v ≡ ev t
  unfolding passing
  at_cell t v below is = ap (passes test) (here_cell values cells t v below is)

  pub at_before : (t t' : ℕ) (v : Value) → t' ≡ (t + (p - 1)) % p → t' < p → slice_get cells t'
      ≡ Some v → passes test v ≡ ev (t + (p - 1))
  unfolding passing
  at_before t t' v at below is =
      ap (passes test) (here_cell values cells t' v below is
      ∙ ap (λ (z : ℕ). earlier values cells z 0) at ∙ earlier_mod values cells (t + (p - 1)) 0)

  pub at_place : (t : ℕ) → passes test (cell_round values cells t) ≡ ev t
  unfolding passing
  at_place t = refl

  pub cyclic : IsCyclic p ev
  unfolding passing earlier
  cyclic t = ap (λ (z : ℕ). passes test (get_or cells z U))
      (back_zero p (t + p) ∙ period_later p t ∙ sym (back_zero p t))

  -- what a search finds
  pub passes_at : (place place' : ℕ) → place' ≡ place → false
      ≡ not (passes test (cell_round values cells place')) → ev place ≡ true
  unfolding passing
  passes_at place place' at said = by (passes test (cell_round values cells place')) refl said
    where
      by : (b : Bool) → passes test (cell_round values cells place') ≡ b → false ≡ not b → ev place
          ≡ true
      by true is said = ap (λ (t : ℕ). passes test (cell_round values cells t)) (sym at) ∙ is
      by false is said = absurd (cc)

  pub fails_at : (place place' : ℕ) → place' ≡ place → true ≡ not
      (passes test (cell_round values cells place')) → ev place ≡ false
  unfolding passing
  fails_at place place' at said = by (passes test (cell_round values cells place')) refl said
    where
      by : (b : Bool) → passes test (cell_round values cells place') ≡ b → true ≡ not b → ev place
          ≡ false
      by true is said = absurd (cc)
      by false is said = ap (λ (t : ℕ). passes test (cell_round values cells t)) (sym at) ∙ is

  -- no region begins where a slot fails, or after one that passes
  pub first_fails : (slot : ℕ) → ev slot ≡ false → is_first p ev slot ≡ false
  first_fails slot is = ap (λ (b : Bool). b && not (ev (slot + (p - 1)))) is

  pub goes_on : (slot : ℕ) → ev (slot + (p - 1)) ≡ true → is_first p ev slot ≡ false
  goes_on slot is = ap (λ (b : Bool). ev slot && not b) is ∙ by (ev slot)
    where
      by : (b : Bool) → (b && false) ≡ false
      by true = refl
      by false = refl

  -- ---- one region

  abbrev pub region_here : ℕ → Option Ticks
  region_here slot = cond (is_first p ev slot) (Some (ticks_of_region (region_from p ev slot))) None

  -- it does not begin there
  pub none_here : (slot : ℕ) → is_first p ev slot ≡ false → None ≡ region_here slot
  none_here slot is = sym (ap (λ (b : Bool). cond b (Some (ticks_of_region (region_from p ev slot)))
      None) is)

  pub count_some : (slot count : ℕ) → ev slot ≡ true → ev (slot + count) ≡ false → 0 < count
  count_some slot count here after = by count refl
    where
      by : (n : ℕ) → n ≡ count → 0 < count
      by zero none =
          let at : slot ≡ slot + count = omega (arith, none) in
          absurd (cc (sym here ∙ ap ev at ∙ after))
      by (suc n) is = omega (arith, is)

  -- the first place that fails ends it
  pub ends_at : (slot count : ℕ) → ev slot ≡ true → ev (slot + (p - 1)) ≡ false → ev (slot + count)
      ≡ false →
      ((place : ℕ) → place < count → ev (slot + place) ≡ true) →
      IsRegion p ev slot (slot + count - 1)
  ends_at slot count here before after each =
      let some = count_some slot count here after in
      record {
        ordered = omega (arith, some);
        each = λ t above below.
            let at : slot + (t - slot) ≡ t = omega (arith, above) in
            sym (ap ev at) ∙ each (t - slot) (omega (arith, above, below, some));
        before = before;
        after = let at : slot + count - 1 + 1 ≡ slot + count = omega (arith, some) in ap ev at
            ∙ after;
      }

  pub some_here : (slot count : ℕ) (region : Ticks) → ev slot ≡ true → ev (slot + (p - 1)) ≡ false →
      ev (slot + count) ≡ false →
      ((place : ℕ) → place < count → ev (slot + place) ≡ true) →
      region ≡ record { first = pos slot; last = pos (slot + count - 1) } → Some region
      ≡ region_here slot
  some_here slot count region here before after each made =
      let is = ends_at slot count here before after each in
      let some = count_some slot count here after in
      let found : region_from p ev slot ≡ record { first = slot; last = slot + count - 1 } =
      region_from_is p ev cyclic long slot (slot + count - 1) is in
      let begins : is_first p ev slot ≡ true = and_from (ev slot) (not (ev (slot + (p - 1)))) here
      (ap not before) in
      sym (ap (λ (b : Bool). cond b (Some (ticks_of_region (region_from p ev slot))) None) begins
      ∙ ap (λ r. Some (ticks_of_region r)) found
      ∙ ap (λ (r : Ticks). Some r) (sym made))

  -- ---- all regions

  abbrev so_far : ℕ → List Ticks
  so_far n = so_far_of test cells n

  one_more : (n : ℕ) → range_with_len 0 (n + 1) ≡ range_with_len 0 n ++ n ∷ []
  one_more n =
      sym (map-id (range_with_len 0 (n + 1)))
      ∙ map-range_with_len_more (λ x. x) 0 n n (omega arith)
      ∙ ap (λ xs. xs ++ n ∷ []) (map-id (range_with_len 0 n))

  more : (n : ℕ) → so_far (n + 1) ≡ so_far n ++ map ticks_of_region
      (map (region_from p ev) (filter (is_first p ev) (n ∷ [])))
  more n =
      ap (λ xs. map ticks_of_region (map (region_from p ev) (filter (is_first p ev) xs)))
      (one_more n)
      ∙ ap (λ xs. map ticks_of_region (map (region_from p ev) xs))
      (filter-append (is_first p ev) (range_with_len 0 n) (n ∷ []))
      ∙ ap (map ticks_of_region) (map-append (region_from p ev)
      (filter (is_first p ev) (range_with_len 0 n)) (filter (is_first p ev) (n ∷ [])))
      ∙ map-append ticks_of_region (regions_from p ev n 0)
      (map (region_from p ev) (filter (is_first p ev) (n ∷ [])))

  of_one : (n : ℕ) (b : Bool) → is_first p ev n ≡ b →
      map ticks_of_region (map (region_from p ev) (filter (is_first p ev) (n ∷ [])))
      ≡ cond b (ticks_of_region (region_from p ev n) ∷ []) []
  of_one n true is = ap (λ (b : Bool). map ticks_of_region
      (map (region_from p ev) (cond b (n ∷ []) []))) is
  of_one n false is = ap (λ (b : Bool). map ticks_of_region
      (map (region_from p ev) (cond b (n ∷ []) []))) is

  skipped : (n k : ℕ) → ((t : ℕ) → n ≤ t → t < n + k → is_first p ev t ≡ false) → so_far (n + k)
      ≡ so_far n
  skipped n zero none = let same : n + 0 ≡ n = omega arith in ap so_far same
  skipped n (suc k) none =
      let next : n + suc k ≡ n + k + 1 = omega arith in
      ap so_far next ∙ more (n + k)
      ∙ ap (λ xs. so_far (n + k) ++ xs) (of_one (n + k) false
      (none (n + k) (omega arith) (omega arith)))
      ∙ append-nil (so_far (n + k))
      ∙ skipped n k (λ t above below. none t above (omega (arith, below)))

  -- no region begins among equal cells
  same_event : (slot end : ℕ) → SameUntil cells slot end → (t : ℕ) → slot ≤ t → t < end → ev t
      ≡ ev slot
  unfolding passing earlier
  same_event slot end same t above below =
      let within = same.within in
      let behind = same.behind in
      by (slice_get cells slot) refl
    where
      by : (o : Option Value) → slice_get cells slot ≡ o → ev t ≡ ev slot
      by None is = absurd (absent cells slot (let within = same.within in
          let behind = same.behind in omega (arith, within, behind)) is)
      by (Some v) is =
          let within = same.within in
          let behind = same.behind in
          sym (at_cell t v (omega (arith, within, below)) (same.same t above below ∙ is))
          ∙ at_cell slot v (omega (arith, within, behind)) is

  begins_nowhere : (slot end : ℕ) → SameUntil cells slot end → (t : ℕ) → slot + 1 ≤ t → t < end →
      is_first p ev t ≡ false
  begins_nowhere slot end same t above below =
      let here : ev t ≡ ev slot = same_event slot end same t (omega (arith, above)) below in
      let before : ev (t + (p - 1)) ≡ ev slot =
      before_tick p ev cyclic long t (omega (arith, above)) ∙ same_event slot end same (t - 1)
      (omega (arith, above)) (omega (arith, below)) in
      (λ i. here i && not (before i)) ∙ by (ev slot)
    where
      by : (b : Bool) → (b && not b) ≡ false
      by true = refl
      by false = refl

  rest : (slot end : ℕ) → SameUntil cells slot end → so_far end ≡ so_far (slot + 1)
  rest slot end same =
      let behind = same.behind in
      let at : end ≡ slot + 1 + (end - (slot + 1)) = omega (arith, behind) in
      ap so_far at ∙ skipped (slot + 1) (end - (slot + 1))
      (λ t above below. begins_nowhere slot end same t above (omega (arith, below, behind)))

  -- a run of equal cells with a region that begins in its first slot, or with none
  pub with_region : (slot end : ℕ) (region : Ticks) (old new : List Ticks) →
      SameUntil cells slot end → Some region ≡ region_here slot →
      old ≡ so_far slot → new ≡ old ++ region ∷ [] → new ≡ so_far end
  with_region slot end region old new same is before e = by (is_first p ev slot) refl
    where
      by : (b : Bool) → is_first p ev slot ≡ b → new ≡ so_far end
      by false none = absurd (cc (is ∙ sym (none_here slot none)))
      by true begins =
          let found : Some region ≡ Some (ticks_of_region (region_from p ev slot)) =
          is ∙ ap (λ (b : Bool). cond b (Some (ticks_of_region (region_from p ev slot))) None)
          begins in
          let one : region ≡ ticks_of_region (region_from p ev slot) = cc in
          e ∙ (λ i. before i ++ one i ∷ []) ∙ sym (ap (λ xs. so_far slot ++ xs)
          (of_one slot true begins)) ∙ sym (more slot) ∙ sym (rest slot end same)

  pub without_region : (slot end : ℕ) (old : List Ticks) → SameUntil cells slot end → None
      ≡ region_here slot →
      old ≡ so_far slot → old ≡ so_far end
  without_region slot end old same is before = by (is_first p ev slot) refl
    where
      by : (b : Bool) → is_first p ev slot ≡ b → old ≡ so_far end
      by true begins =
          absurd (cc (is ∙ ap (λ (b : Bool). cond b (Some (ticks_of_region (region_from p ev slot)))
          None) begins))
      by false none =
          before ∙ sym (rest slot end same ∙ more slot ∙ ap (λ xs. so_far slot ++ xs)
          (of_one slot false none) ∙ append-nil (so_far slot))

  -- ---- events in all slots

  pub all_pass : ((place : ℕ) → place < p → ev place ≡ true) → true ≡ all_events p ev
  all_pass each = by (first_from (λ t. not (ev t)) p 0) refl
    where
      by : (o : Option ℕ) → first_from (λ t. not (ev t)) p 0 ≡ o → true
          ≡ is_none (first_from (λ t. not (ev t)) p 0)
      by None is = sym (ap is_none is)
      by (Some t) is =
          let found = first_is (λ t. not (ev t)) p 0 t is in
          let below = found.below in
          let fails = not_true (ev t) found.passes in
          absurd (cc (sym fails ∙ each t (omega (arith, below))))

  pub one_fails : (place : ℕ) → place < p → ev place ≡ false → ((t : ℕ) → t < place → ev t ≡ true) →
      false ≡ all_events p ev
  one_fails place below fails before =
      sym (ap is_none (first_from_is (λ t. not (ev t)) p 0 place record {
        from = omega arith;
        below = omega (arith, below);
        passes = ap not fails;
        before = λ t above less. ap not (before t less);
      }))
