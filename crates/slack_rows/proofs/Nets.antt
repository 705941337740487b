-- A driven net breaks its assertion exactly where one of its slacks is broken.
use Rattle.std.proofs.Common.{inl, inr, ◌≡◌, ◌≢◌, ◌⊎◌, ◌↔◌, ℕ, ◌+◌, ◌<◌, ◌≤◌, Bool, true, false, not, ◌&&◌, ◌||◌, cond, get_or, refl, sym, ap, subst, ◌∙◌, arith, List, [], ◌∷◌, length, Option, Some, None}
use Rattle.std.specs.Prelude.{is_some, slice_get}
use Rattle.std.specs.Option.{option_map}
use Rattle.std.proofs.lemmas.Bool.{and_parts, or_from}
use Rattle.scald_base.specs.declared.assertion.AssertSpec.{AssertSpec}
use Rattle.scald_base.specs.declared.assertion.AssertSpec.TheVariants.{None as Unasserted, Precision, Clock, Stable}
use Rattle.scald_base.specs.declared.assertion.Span.{Span}
use Rattle.scald_base.specs.Clock.{back}
use Rattle.scald_base.specs.Quiet.{quiet}
use Rattle.scald_base.specs.Time.{Header, period}
use Rattle.scald_base.proofs.Back.{back_zero, mod_small}
use Rattle.step_values.specs.declared.value.Value.TheVariants.{S, C, U}
use Rattle.step_values.specs.Steps.{has}
use Rattle.step_values.specs.Cell.{values}
use Rattle.wave_core.specs.Slots.{earlier}
use Rattle.wave_core.proofs.Slots.{earlier_slots, length_slots}
use Rattle.skew_algebra.specs.Wave.{cell_at, fold}
use Rattle.skew_algebra.proofs.Moves.{earlier_folded}
use Rattle.pin_waves.specs.Interface.{interface_wave, stable_wave, wide_wave}
use Rattle.pin_waves.proofs.Asserted.{length_interface}
use Rattle.flat_circuit.specs.declared.net.Net.{Net}
use Rattle.flat_circuit.specs.Builder.{is_asserted}
use Rattle.flat_circuit.specs.Circuit.{Circuit}
use Rattle.fixpoint_engine.specs.Waves.{Waves}
use Rattle.point_check.specs.Window.{Folds}
use Rattle.point_check.specs.Assertion.{assertion_fault, exceeds, fault_in, first_excess, is_held}
use Rattle.point_check.specs.Faults.{fault_if_held, fault_of_net, net_fault}
use Rattle.critical_paths.specs.declared.direction.Direction.TheVariants.{Rise, Fall, Change}
use Rattle.critical_paths.specs.Event.{moves}
use Rattle.critical_paths.proofs.Moving.{moves_normal, normal_moves}
use Rattle.critical_paths.proofs.Runs.{not_true}
use Rattle.slack_rows.specs.declared.parameter.Word.TheVariants.{Assert, From as StableFrom, To as StableTo}
use Rattle.slack_rows.specs.Slack.{Free, finding_alone}
use Rattle.slack_rows.specs.Watch.{directions_of, permitted}
use Rattle.slack_rows.specs.Limit.{finding_held, finding_in, finding_net}
use Rattle.slack_rows.specs.Laws.{AreWaves, IsBroken, NetsBreakWithFaults, SomeOf}
use Rattle.slack_rows.proofs.Checkers.{folds_repeat}
use Rattle.slack_rows.proofs.Excess.{IsMetBy, exceeded_excess, excess_breaks, excess_exceeded, outside, step_met}

either : (a b : Bool) → (a || b) ≡ true → (a ≡ true) ⊎ (b ≡ true)
either true b is = inl refl
either false b is = inr is

-- ---- the wide wave of an assertion, read round the period

module _ (h : Header) (spec : AssertSpec) (some : 0 < period h) where
  wide_is : (t : ℕ) → permitted h spec t ≡ fold values (interface_wave h spec) t
  wide_is t = earlier_folded values (interface_wave h spec) t (let long : length (interface_wave h spec).cells ≡ period h = length_interface h spec in omega (arith, long, some))

  pub wide_cyclic : (t : ℕ) → permitted h spec (t + period h) ≡ permitted h spec t
  wide_cyclic t =
      wide_is (t + period h) ∙ folds_repeat (period h) (interface_wave h spec) (length_interface h spec) t ∙ sym (wide_is t)

  -- a cell of a slot is that
  cell_is : (s : ℕ) → s < period h → cell_at values (wide_wave h spec) s ≡ permitted h spec s
  unfolding earlier
  cell_is s below =
      let long : length (wide_wave h spec) ≡ period h = length_slots (length (interface_wave h spec).cells) (fold values (interface_wave h spec)) ∙ length_interface h spec in
      ap (λ (z : ℕ). get_or (wide_wave h spec) z U)
      (sym (back_zero (length (wide_wave h spec)) s ∙ mod_small s (length (wide_wave h spec)) (omega (arith, long, below))))

-- ---- a stable net may step both ways in a slot, or neither

one_cell : (still before after : Bool) → before ≢ after → has (cond still S C) before after ≡ true → has (cond still S C) after before ≡ true
one_cell true false true apart moves = absurd (cc)
one_cell true true false apart moves = absurd (cc)
one_cell false false true apart moves = refl
one_cell false true false apart moves = refl
one_cell still true true apart moves = moves
one_cell still false false apart moves = moves

apart_turned : (before after : Bool) → before ≢ after → after ≢ before
apart_turned before after apart same = apart (sym same)

module _ (h : Header) (spans : List Span) (some : 0 < period h) where
  slots_some : 0 < length (stable_wave h spans).cells
  slots_some = let long : length (stable_wave h spans).cells ≡ period h = length_slots (period h) (λ p. cond (quiet spans h p) S C) in omega (arith, long, some)

  stable_turned : (t : ℕ) (before after : Bool) → before ≢ after → has (fold values (stable_wave h spans) t) before after ≡ true →
      has (fold values (stable_wave h spans) t) after before ≡ true
  stable_turned t before after apart moves =
      let here : fold values (stable_wave h spans) t ≡ cond (quiet spans h (back (period h) t 0)) S C =
      earlier_slots values (period h) (λ p. cond (quiet spans h p) S C) t 0 some in
      ap (λ v. has v after before) here ∙ one_cell (quiet spans h (back (period h) t 0)) before after apart (ap (λ v. has v before after) (sym here) ∙ moves)

  both_ways : (t : ℕ) (before after : Bool) → before ≢ after → has (permitted h (Stable spans) t) before after ≡ true →
      has (permitted h (Stable spans) t) after before ≡ true
  both_ways t before after apart moves =
      ap (λ v. has v after before) (wide_is h (Stable spans) some t)
      ∙ moves_normal after before (apart_turned before after apart) (stable_wave h spans) slots_some t
      (stable_turned t before after apart (normal_moves before after apart (stable_wave h spans) slots_some t
      (ap (λ v. has v before after) (sym (wide_is h (Stable spans) some t)) ∙ moves)))

  neither : (t : ℕ) (before after : Bool) → before ≢ after → has (permitted h (Stable spans) t) before after ≡ false →
      has (permitted h (Stable spans) t) after before ≡ false
  neither t before after apart none = by (has (permitted h (Stable spans) t) after before) refl
    where
      by : (b : Bool) → has (permitted h (Stable spans) t) after before ≡ b → has (permitted h (Stable spans) t) after before ≡ false
      by false is = is
      by true is = absurd (cc (sym none ∙ both_ways t after before (apart_turned before after apart) is))

-- ---- a step outside is in a window by some direction

module _ (h : Header) (found : Folds) (long : 2 ≤ period h) (found_cyclic : (t : ℕ) → found (t + period h) ≡ found t) where
  abbrev Covers : AssertSpec → Type 0
  Covers spec =
      (t : ℕ) → t < period h → outside found (permitted h spec) t ≡ true →
      SomeOf (IsMetBy (period h) long found (permitted h spec) found_cyclic (wide_cyclic h spec (omega (arith, long)))) (directions_of spec)

  by_edges : (spec : AssertSpec) → directions_of spec ≡ Rise ∷ Fall ∷ [] → Covers spec
  by_edges spec is t below out =
      subst (SomeOf (IsMetBy (period h) long found (permitted h spec) found_cyclic (wide_cyclic h spec (omega (arith, long))))) (sym is)
      (elim (either (has (found t) false true && not (has (permitted h spec t) false true)) (has (found t) true false && not (has (permitted h spec t) true false)) out) [
        | inl rise ↦
            let parts = and_parts (has (found t) false true) (not (has (permitted h spec t) false true)) rise in
            inl (step_met (period h) long found (permitted h spec) found_cyclic (wide_cyclic h spec (omega (arith, long))) Rise t below parts.0
            (not_true (has (permitted h spec t) false true) parts.1))
        | inr fall ↦
            let parts = and_parts (has (found t) true false) (not (has (permitted h spec t) true false)) fall in
            inr (inl (step_met (period h) long found (permitted h spec) found_cyclic (wide_cyclic h spec (omega (arith, long))) Fall t below parts.0
            (not_true (has (permitted h spec t) true false) parts.1)))
      ])

  by_changes : (spans : List Span) → Covers (Stable spans)
  by_changes spans t below out =
      elim (either (has (found t) false true && not (has (permitted h (Stable spans) t) false true))
      (has (found t) true false && not (has (permitted h (Stable spans) t) true false)) out) [
        | inl rise ↦
            let parts = and_parts (has (found t) false true) (not (has (permitted h (Stable spans) t) false true)) rise in
            let none = not_true (has (permitted h (Stable spans) t) false true) parts.1 in
            inl (step_met (period h) long found (permitted h (Stable spans)) found_cyclic (wide_cyclic h (Stable spans) (omega (arith, long))) Change t below
            (first_or (has (found t) false true) (has (found t) true false) parts.0)
            (or_from (has (permitted h (Stable spans) t) false true) (has (permitted h (Stable spans) t) true false) none
            (neither h spans (omega (arith, long)) t false true (λ same. absurd (cc)) none)))
        | inr fall ↦
            let parts = and_parts (has (found t) true false) (not (has (permitted h (Stable spans) t) true false)) fall in
            let none = not_true (has (permitted h (Stable spans) t) true false) parts.1 in
            inl (step_met (period h) long found (permitted h (Stable spans)) found_cyclic (wide_cyclic h (Stable spans) (omega (arith, long))) Change t below
            (second_or (has (found t) false true) (has (found t) true false) parts.0)
            (or_from (has (permitted h (Stable spans) t) false true) (has (permitted h (Stable spans) t) true false)
            (neither h spans (omega (arith, long)) t true false (λ same. absurd (cc)) none) none))
      ]
    where
      first_or : (a b : Bool) → a ≡ true → (a || b) ≡ true
      first_or true b is = refl
      first_or false b is = absurd (cc)

      second_or : (a b : Bool) → b ≡ true → (a || b) ≡ true
      second_or true b is = refl
      second_or false b is = is

  pub covers : (spec : AssertSpec) → is_asserted spec ≡ true → Covers spec
  covers Unasserted none = absurd (cc)
  covers (Precision clock) asserts = by_edges (Precision clock) refl
  covers (Clock clock) asserts = by_edges (Clock clock) refl
  covers (Stable spans) asserts = by_changes spans

-- ---- of a circuit

unmap : {A B : Type 0} (f : A → B) (o : Option A) → is_some (option_map f o) ≡ is_some o
unmap f None = refl
unmap f (Some x) = refl

module _ (c : Circuit) (ws : Waves) (i : ℕ) (are : AreWaves c ws) (below : i < length c.nets) where
  long : 2 ≤ period c.header
  long = are.header.shortest

  abbrev found : Folds
  found = fold values (ws i)

  read_again : (spec : AssertSpec) (f g : Folds) → ((s : ℕ) → s < period c.header → f s ≡ g s) →
      is_some (first_excess (period c.header) found f) ≡ true → is_some (first_excess (period c.header) found g) ≡ true
  read_again spec f g same some =
      let e = excess_exceeded (period c.header) found f some in
      exceeded_excess (period c.header) found g
      record { slot = e.slot; below = e.below; is = ap (exceeds (found e.slot)) (sym (same e.slot e.below)) ∙ e.is }

  held_breaks : (net : Net) (b : Bool) → is_held net ≡ b →
      (is_some (fault_if_held b c ws i net) ≡ true)
      ↔ (IsBroken (cond b (finding_net c ws i net Assert) (finding_alone Free))
      ⊎ (IsBroken (cond b (finding_net c ws i net StableFrom) (finding_alone Free)) ⊎ IsBroken (cond b (finding_net c ws i net StableTo) (finding_alone Free))))
  unfolding assertion_fault
  held_breaks net false is = (
    λ none. absurd (cc),
    λ broken. elim broken [
      | inl assert ↦ absurd (cc)
      | inr windows ↦ elim windows [ inl before ↦ absurd (cc) | inr after ↦ absurd (cc) ]
    ],
  )
  held_breaks net true is =
      let parts = and_parts (is_some net.driver) (is_asserted net.spec) is in
      let repeat = folds_repeat (period c.header) (ws i) (are.long i below) in
      let wide = wide_cyclic c.header net.spec (omega (arith, long)) in
      let both = excess_breaks (period c.header) long found (permitted c.header net.spec) repeat wide (directions_of net.spec)
      (covers c.header found long repeat net.spec parts.1) in
      let fault_is : is_some (option_map (fault_in i found) (first_excess (period c.header) found (cell_at values (wide_wave c.header net.spec))))
      ≡ is_some (first_excess (period c.header) found (cell_at values (wide_wave c.header net.spec))) =
      unmap (fault_in i found) (first_excess (period c.header) found (cell_at values (wide_wave c.header net.spec))) in (
        λ some. both.0 (read_again net.spec (cell_at values (wide_wave c.header net.spec)) (permitted c.header net.spec)
            (cell_is c.header net.spec (omega (arith, long))) (sym fault_is ∙ some)),
        λ broken. fault_is ∙ read_again net.spec (permitted c.header net.spec) (cell_at values (wide_wave c.header net.spec))
            (λ s inside. sym (cell_is c.header net.spec (omega (arith, long)) s inside)) (both.1 broken),
      )

  there : (o : Option Net) →
      (is_some (fault_of_net c ws i o) ≡ true)
      ↔ (IsBroken (finding_held c ws i Assert o) ⊎ (IsBroken (finding_held c ws i StableFrom o) ⊎ IsBroken (finding_held c ws i StableTo o)))
  there None = (
    λ none. absurd (cc),
    λ broken. elim broken [
      | inl assert ↦ absurd (cc)
      | inr windows ↦ elim windows [ inl before ↦ absurd (cc) | inr after ↦ absurd (cc) ]
    ],
  )
  there (Some net) = held_breaks net (is_held net) refl

pub nets_break_with_faults : NetsBreakWithFaults
unfolding net_fault finding_in
nets_break_with_faults c ws i are below = there c ws i are below (slice_get c.nets i)
