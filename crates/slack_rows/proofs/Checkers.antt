-- A checker at the edges of a clock has a fault exactly where its setup or its hold slack is broken.
use Rattle.std.proofs.Common.{inl, inr, ◌≡◌, ◌⊎◌, ◌↔◌, ℕ, zero, suc, ◌+◌, ◌<◌, ◌≤◌, Bool, true, false, ◌&&◌, cond, refl, sym, ap, subst, ◌∙◌, arith, List, [], ◌∷◌, length, map, Option, Some, None}
use Rattle.std.specs.Prelude.{◌==◌, pos, int_lt, filter, is_some, slice_get, unwrap_or}
use Rattle.std.specs.List.{AllByRecursion, range_with_len}
use Rattle.std.proofs.lemmas.Bool.{and_parts, eqb-true}
use Rattle.std.proofs.lemmas.Int.{ints}
use Rattle.std.proofs.lemmas.Option.{get_or_from_slice_get, slice_get_within}
use Rattle.scald_base.specs.Time.{Header, period}
use Rattle.scald_base.proofs.Back.{period_later}
use Rattle.step_values.specs.declared.value.Value.{Value}
use Rattle.step_values.specs.Steps.{has}
use Rattle.step_values.specs.Cell.{values}
use Rattle.skew_algebra.specs.Wave.{Wave, fold}
use Rattle.element_kinds.specs.declared.kind.Kind.{Kind}
use Rattle.element_kinds.specs.declared.kind.Kind.TheVariants.{Buf, And, Or, Xor, Mux2, Mux4, Mux8, Chg, Reg, RegRs, Latch, LatchRs, SetupHold, RiseFall, MinPulse}
use Rattle.element_kinds.specs.Kinds.{check_of, checks_points, may_be_marked}
use Rattle.flat_circuit.specs.declared.instance.Instance.{Instance}
use Rattle.flat_circuit.specs.Instances.{InstanceFits}
use Rattle.flat_circuit.specs.declared.limits.Limits.{Limits}
use Rattle.flat_circuit.specs.declared.limits.Limits.TheVariants.{None as Unlimited, Edges, Pulses}
use Rattle.flat_circuit.specs.Limits.{setup_of, hold_of}
use Rattle.flat_circuit.specs.Kind.{EdgesFit, LimitsFit, pin_counts}
use Rattle.flat_circuit.specs.declared.fault.Fault.{Fault}
use Rattle.flat_circuit.specs.Circuit.{Circuit}
use Rattle.gate_eval.specs.Instance.{wave_of_pin}
use Rattle.gate_eval.proofs.Fitting.{fold_mod}
use Rattle.fixpoint_engine.specs.Waves.{Waves, marked_pin, pin_waves}
use Rattle.fixpoint_engine.proofs.Fits.{long_pin_at}
use Rattle.point_check.specs.Window.{Folds, places}
use Rattle.point_check.specs.Point.{checker_fault, first_fault}
use Rattle.point_check.specs.Faults.{fault_by, fault_of, instance_fault}
use Rattle.critical_paths.specs.declared.direction.Direction.TheVariants.{Rise, Fall, Change}
use Rattle.critical_paths.specs.Event.{Events, events, is_first, is_last, moves}
use Rattle.critical_paths.specs.Region.{IsCyclic, first_from, region_from, regions}
use Rattle.critical_paths.proofs.Searches.{first_is}
use Rattle.slack_rows.specs.declared.window.Extent.{Extent}
use Rattle.slack_rows.specs.declared.parameter.Word.{Word as Limit}
use Rattle.slack_rows.specs.declared.parameter.Word.TheVariants.{Setup, Hold}
use Rattle.slack_rows.specs.Slack.{Free, Launches, Finding, is_broken, finding_after, finding_alone, finding_before}
use Rattle.slack_rows.specs.Window.{about}
use Rattle.slack_rows.specs.Watch.{rise_watch, span_watch}
use Rattle.slack_rows.specs.Launched.{checker_launches}
use Rattle.slack_rows.specs.Limit.{edge_limits, has_no_window, least_still, pin_folds, rises_of, spans_of, still_after, still_before, finding_check, edge_pair, finding_in, finding_instance, finding_mark, finding_still}
use Rattle.slack_rows.specs.Laws.{AreWaves, EdgesBreakWithFaults, IsBroken, IsPlaced, SomeOf}
use Rattle.slack_rows.proofs.Broken.{least_broken}
use Rattle.slack_rows.proofs.Watched.{broken_where_touched}
use Rattle.slack_rows.proofs.Searched.{faulty_found, found_faulty}
use Rattle.slack_rows.proofs.Rises.{rise_touches, touched_rises}
use Rattle.slack_rows.proofs.Spans.{all_spans_placed, span_touches, touched_spans}

-- ---- waves of a circuit

pub folds_repeat : (p : ℕ) (w : Wave Value) → length w.cells ≡ p → (t : ℕ) → fold values w (t + p) ≡ fold values w t
folds_repeat p w long t =
    sym (fold_mod values p w (t + p) long) ∙ ap (fold values w) (period_later p t) ∙ fold_mod values p w t long

module _ (c : Circuit) (ws : Waves) (k : ℕ) (j : Instance) (are : AreWaves c ws) (at : slice_get c.instances k ≡ Some j) where
  pub instance_fits : InstanceFits c.header (length c.nets) j
  instance_fits =
      subst (InstanceFits c.header (length c.nets)) (get_or_from_slice_get c.instances k j j at)
      (are.circuit.each k j (slice_get_within c.instances k j at))

  pub pins_repeat : (i : ℕ) → i < length j.pins → (t : ℕ) → pin_folds c ws j i (t + period c.header) ≡ pin_folds c ws j i t
  pins_repeat i below =
      folds_repeat (period c.header) (wave_of_pin (pin_waves c ws j) i)
      (long_pin_at c ws j.pins i are.long instance_fits.exists.reads below)

-- ---- windows about regions

module _ (p : ℕ) (ev : Events) where
  pub region_ends : (f : ℕ) → 1 ≤ p → (f ≤ (region_from p ev f).last) × ((region_from p ev f).last < f + p)
  region_ends f some = by (first_from (is_last ev) p f) refl
    where
      by : (o : Option ℕ) → first_from (is_last ev) p f ≡ o → (f ≤ unwrap_or o f) × (unwrap_or o f < f + p)
      by None is = (omega arith, omega (arith, some))
      by (Some l) is = let found = first_is (is_last ev) p f l is in (found.from, found.below)

  -- those that begin in the period lie where there are ticks on either side
  pub region_placed : (f : ℕ) (limits : Extent) → f < p → 1 ≤ limits.before + limits.after → limits.before + limits.after ≤ p →
      IsPlaced p (about p limits (region_from p ev f))
  region_placed f limits below some short =
      let (ordered, near) = region_ends f (omega (arith, below)) in
      record {
        after_start = omega (arith, short);
        some = omega (arith, some, ordered, short);
        before_end = omega (arith, near, below, short);
      }

  placed_from : (limits : Extent) → 1 ≤ limits.before + limits.after → limits.before + limits.after ≤ p → (n i : ℕ) → i + n ≤ p →
      AllByRecursion (IsPlaced p) (map (about p limits) (map (region_from p ev) (filter (is_first p ev) (range_with_len i n))))
  placed_from limits some short zero i within = tt
  placed_from limits some short (suc n) i within =
      by (is_first p ev i) (region_placed i limits (omega (arith, within)) some short)
      (placed_from limits some short n (i + 1) (omega (arith, within)))
    where
      by : (b : Bool) → IsPlaced p (about p limits (region_from p ev i)) →
          AllByRecursion (IsPlaced p) (map (about p limits) (map (region_from p ev) (filter (is_first p ev) (range_with_len (i + 1) n)))) →
          AllByRecursion (IsPlaced p) (map (about p limits) (map (region_from p ev) (cond b (i ∷ filter (is_first p ev) (range_with_len (i + 1) n)) (filter (is_first p ev) (range_with_len (i + 1) n)))))
      by true here rest = (here, rest)
      by false here rest = rest

  pub all_placed : (limits : Extent) → 1 ≤ limits.before + limits.after → limits.before + limits.after ≤ p →
      AllByRecursion (IsPlaced p) (map (about p limits) (regions p ev))
  all_placed limits some short = placed_from limits some short p 0 (omega arith)

-- ---- without a window

not_negative : (n : ℕ) → int_lt (pos n) (pos 0) ≡ true → ⊥
not_negative n is = absurd (grind (arith, ints))

still_holds : (o : Option ℕ) → is_broken (finding_still o).slack ≡ true → ⊥
still_holds None broken = absurd (cc)
still_holds (Some n) broken = not_negative n broken

none_breaks : (still : ℕ → Option ℕ) (ts : List ℕ) → SomeOf (λ t. is_broken (finding_still (still t)).slack ≡ true) ts → ⊥
none_breaks still [] none = none
none_breaks still (t ∷ ts) (inl here) = still_holds (still t) here
none_breaks still (t ∷ ts) (inr more) = none_breaks still ts more

least_holds : (still : ℕ → Option ℕ) (p : ℕ) (clock : Events) → IsBroken (least_still still p clock) → ⊥
least_holds still p clock broken =
    elim (least_broken (λ t. finding_still (still t)) (finding_alone Free) (filter clock (range_with_len 0 p)) broken) [
      | inl none ↦ absurd (cc)
      | inr some ↦ none_breaks still (filter clock (range_with_len 0 p)) some
    ]

some_window : (s h : ℕ) → ((s == 0) && (h == 0)) ≡ false → 1 ≤ s + h
some_window zero zero none = absurd (cc)
some_window zero (suc h) some = omega arith
some_window (suc s) h some = omega arith

no_window : (s h : ℕ) → ((s == 0) && (h == 0)) ≡ true → s + h ≡ 0
no_window s h none =
    let parts = and_parts (s == 0) (h == 0) none in
    let first : s ≡ 0 = eqb-true s 0 parts.0 in
    let second : h ≡ 0 = eqb-true h 0 parts.1 in
    omega (arith, first, second)

-- ---- about the rises of a clock

module _ (p k : ℕ) (long : 2 ≤ p) (clock input : Folds) (clock_cyclic : (t : ℕ) → clock (t + p) ≡ clock t)
    (input_cyclic : (t : ℕ) → input (t + p) ≡ input t) (limits : Limits) (short : setup_of limits + hold_of limits ≤ p) where
  abbrev faulty : Type 0
  faulty = is_some (first_fault SetupHold p k clock input limits) ≡ true

  changes_cyclic : IsCyclic p (events Change input)
  changes_cyclic t = ap (λ v. moves Change (has v)) (input_cyclic t)

  pub rise_breaks : (launches : Launches) → 1 ≤ setup_of limits + hold_of limits →
      faulty ↔ (IsBroken (finding_before p launches (rise_watch p (edge_limits limits) clock input)) ⊎ IsBroken (finding_after p launches (rise_watch p (edge_limits limits) clock input)))
  rise_breaks launches some =
      let breaks = broken_where_touched p launches (rise_watch p (edge_limits limits) clock input) long changes_cyclic (all_placed p (events Rise clock) (edge_limits limits) some short) in (
        λ found. breaks.1 (rise_touches p long clock input clock_cyclic input_cyclic limits short (found_faulty SetupHold p k clock input limits found)),
        λ broken. faulty_found SetupHold p k clock input limits (touched_rises p long clock input clock_cyclic input_cyclic limits short some (breaks.0 broken)),
      )

  pub rise_without : setup_of limits + hold_of limits ≡ 0 → faulty → ⊥
  rise_without none found =
      let f = found_faulty SetupHold p k clock input limits found in
      let is = f.is in
      let within = f.hit.within in
      let same : f.window ≡ record { setup = setup_of limits; high = 0; hold = hold_of limits } = cc in
      let places_are : places f.window ≡ setup_of limits + 0 + hold_of limits = ap places same in
      absurd (omega (arith, within, places_are, none))

-- ---- of a circuit

module _ (p k : ℕ) (long : 2 ≤ p) (clock input : Folds) (clock_cyclic : (t : ℕ) → clock (t + p) ≡ clock t)
    (input_cyclic : (t : ℕ) → input (t + p) ≡ input t) (limits : Limits) (short : setup_of limits + hold_of limits ≤ p) where
  pub span_breaks : (launches : Launches) →
      (is_some (first_fault RiseFall p k clock input limits) ≡ true)
      ↔ (IsBroken (finding_before p launches (span_watch p (edge_limits limits) clock input)) ⊎ IsBroken (finding_after p launches (span_watch p (edge_limits limits) clock input)))
  span_breaks launches =
      let breaks = broken_where_touched p launches (span_watch p (edge_limits limits) clock input) long (λ t. ap (λ v. moves Change (has v)) (input_cyclic t))
      (all_spans_placed p long clock input clock_cyclic input_cyclic limits short) in (
        λ found. breaks.1 (span_touches p long clock input clock_cyclic input_cyclic limits short (found_faulty RiseFall p k clock input limits found)),
        λ broken. faulty_found RiseFall p k clock input limits (touched_spans p long clock input clock_cyclic input_cyclic limits short (breaks.0 broken)),
      )

-- a fault or not by its kind, and what is told of the instance by it
abbrev fault_by_of : Kind → Circuit → Waves → ℕ → Instance → Option Fault
fault_by_of kind c ws k j = fault_by (checks_points kind) (may_be_marked kind) c ws k j

abbrev finding_by_kind : Kind → Circuit → Waves → Instance → Limit → Finding
finding_by_kind kind c ws j limit =
    cond (may_be_marked kind) (finding_mark c ws j limit (marked_pin j)) (finding_check c ws j limit (check_of kind))

abbrev BreakWithFault : Kind → Circuit → Waves → ℕ → Instance → Type 0
BreakWithFault kind c ws k j =
    (is_some (fault_by_of kind c ws k j) ≡ true)
    ↔ (IsBroken (finding_by_kind kind c ws j Setup) ⊎ IsBroken (finding_by_kind kind c ws j Hold))

module _ (c : Circuit) (ws : Waves) (k : ℕ) (j : Instance) (are : AreWaves c ws) (at : slice_get c.instances k ≡ Some j)
    (two : 2 ≤ length j.pins) (short : setup_of j.limits + hold_of j.limits ≤ period c.header) where
  long : 2 ≤ period c.header
  long = are.header.shortest

  abbrev clock : Folds
  clock = pin_folds c ws j 0

  abbrev input : Folds
  input = pin_folds c ws j 1

  clock_repeats : (t : ℕ) → clock (t + period c.header) ≡ clock t
  clock_repeats = pins_repeat c ws k j are at 0 (omega (arith, two))

  input_repeats : (t : ℕ) → input (t + period c.header) ≡ input t
  input_repeats = pins_repeat c ws k j are at 1 (omega (arith, two))

  at_rise : (b : Bool) → has_no_window (edge_limits j.limits) ≡ b →
      (is_some (first_fault SetupHold (period c.header) k clock input j.limits) ≡ true)
      ↔ (IsBroken (cond b (edge_pair still_before c ws j) (finding_before (period c.header) (checker_launches c ws j Rise (rises_of c ws j).windows) (rises_of c ws j)))
      ⊎ IsBroken (cond b (edge_pair still_after c ws j) (finding_after (period c.header) (checker_launches c ws j Rise (rises_of c ws j).windows) (rises_of c ws j))))
  at_rise true none = (
    λ found. absurd (rise_without (period c.header) k long clock input clock_repeats input_repeats j.limits short (no_window (setup_of j.limits) (hold_of j.limits) none) found),
    λ broken. absurd (elim broken [
      | inl before ↦ least_holds (still_before (period c.header) (events Change input)) (period c.header) (events Rise clock) before
      | inr after ↦ least_holds (still_after (period c.header) (events Change input)) (period c.header) (events Rise clock) after
    ]),
  )
  at_rise false some =
      rise_breaks (period c.header) k long clock input clock_repeats input_repeats j.limits short
      (checker_launches c ws j Rise (rises_of c ws j).windows) (some_window (setup_of j.limits) (hold_of j.limits) some)

  at_span : (is_some (first_fault RiseFall (period c.header) k clock input j.limits) ≡ true)
      ↔ (IsBroken (finding_before (period c.header) (checker_launches c ws j Fall (spans_of c ws j).windows) (spans_of c ws j))
      ⊎ IsBroken (finding_after (period c.header) (checker_launches c ws j Fall (spans_of c ws j).windows) (spans_of c ws j)))
  at_span =
      span_breaks (period c.header) k long clock input clock_repeats input_repeats j.limits short
      (checker_launches c ws j Fall (spans_of c ws j).windows)

pub edges_short : (h : Header) (limits : Limits) → EdgesFit h limits → setup_of limits + hold_of limits ≤ period h
edges_short h Unlimited none = absurd none
edges_short h (Edges setup hold) fits = fits
edges_short h (Pulses high low) none = absurd none

points_by : (c : Circuit) (ws : Waves) (k : ℕ) (j : Instance) → AreWaves c ws → slice_get c.instances k ≡ Some j →
    (kind : Kind) → j.kind ≡ kind → checks_points kind ≡ true → BreakWithFault kind c ws k j
unfolding checker_fault
points_by c ws k j are at Buf is points = absurd (cc)
points_by c ws k j are at And is points = absurd (cc)
points_by c ws k j are at Or is points = absurd (cc)
points_by c ws k j are at Xor is points = absurd (cc)
points_by c ws k j are at Mux2 is points = absurd (cc)
points_by c ws k j are at Mux4 is points = absurd (cc)
points_by c ws k j are at Mux8 is points = absurd (cc)
points_by c ws k j are at Chg is points = absurd (cc)
points_by c ws k j are at Reg is points = absurd (cc)
points_by c ws k j are at RegRs is points = absurd (cc)
points_by c ws k j are at Latch is points = absurd (cc)
points_by c ws k j are at LatchRs is points = absurd (cc)
points_by c ws k j are at MinPulse is points = absurd (cc)
points_by c ws k j are at SetupHold is points =
    let fits = instance_fits c ws k j are at in
    let two : 2 ≤ length j.pins = subst (λ kind. (pin_counts kind).0 ≤ length j.pins) is fits.pins.least in
    let short = edges_short c.header j.limits (subst (λ kind. LimitsFit c.header kind j.limits) is fits.lim) in
    let found : is_some (first_fault j.kind (period c.header) k (pin_folds c ws j 0) (pin_folds c ws j 1) j.limits)
    ≡ is_some (first_fault SetupHold (period c.header) k (pin_folds c ws j 0) (pin_folds c ws j 1) j.limits) =
    ap (λ kind. is_some (first_fault kind (period c.header) k (pin_folds c ws j 0) (pin_folds c ws j 1) j.limits)) is in
    let both = at_rise c ws k j are at two short (has_no_window (edge_limits j.limits)) refl in
    (λ faulty. both.0 (sym found ∙ faulty), λ broken. found ∙ both.1 broken)
points_by c ws k j are at RiseFall is points =
    let fits = instance_fits c ws k j are at in
    let two : 2 ≤ length j.pins = subst (λ kind. (pin_counts kind).0 ≤ length j.pins) is fits.pins.least in
    let short = edges_short c.header j.limits (subst (λ kind. LimitsFit c.header kind j.limits) is fits.lim) in
    let found : is_some (first_fault j.kind (period c.header) k (pin_folds c ws j 0) (pin_folds c ws j 1) j.limits)
    ≡ is_some (first_fault RiseFall (period c.header) k (pin_folds c ws j 0) (pin_folds c ws j 1) j.limits) =
    ap (λ kind. is_some (first_fault kind (period c.header) k (pin_folds c ws j 0) (pin_folds c ws j 1) j.limits)) is in
    let both = at_span c ws k j are at two short in
    (λ faulty. both.0 (sym found ∙ faulty), λ broken. found ∙ both.1 broken)

pub edges_break_with_faults : EdgesBreakWithFaults
unfolding instance_fault finding_in
edges_break_with_faults c ws k j are at points =
    let both = points_by c ws k j are at j.kind refl points in
    let fault_is : is_some (fault_of c ws k (slice_get c.instances k)) ≡ is_some (fault_by_of j.kind c ws k j) =
    ap (λ o. is_some (fault_of c ws k o)) at in
    let before_is : is_broken (finding_instance c ws Setup (slice_get c.instances k)).slack ≡ is_broken (finding_by_kind j.kind c ws j Setup).slack =
    ap (λ o. is_broken (finding_instance c ws Setup o).slack) at in
    let after_is : is_broken (finding_instance c ws Hold (slice_get c.instances k)).slack ≡ is_broken (finding_by_kind j.kind c ws j Hold).slack =
    ap (λ o. is_broken (finding_instance c ws Hold o).slack) at in (
      λ found. elim (both.0 (sym fault_is ∙ found)) [ inl before ↦ inl (before_is ∙ before) | inr after ↦ inr (after_is ∙ after) ],
      λ broken. fault_is ∙ both.1 (elim broken [ inl before ↦ inl (sym before_is ∙ before) | inr after ↦ inr (sym after_is ∙ after) ]),
    )
