-- What the pins of a checker show, and the slacks of its input.
use Rattle.std.proofs.Common.{◌≡◌, ℕ, ◌<◌, ◌≤◌, Bool, true, false, not, ◌&&◌, refl, sym, ap, subst, ◌∙◌, arith, List, length, map, Some}
use Rattle.std.specs.Prelude.{Result, IfOk, slice_get}
use Rattle.std.specs.List.{All}
use Rattle.std.proofs.lemmas.Bool.{and_parts}
use Rattle.std.proofs.lemmas.Result.{IfOk-weaker}
use Rattle.scald_base.specs.Time.{period}
use Rattle.step_values.specs.declared.value.Value.{Value}
use Rattle.step_values.specs.Cell.{values}
use Rattle.step_values.specs.Steps.{has}
use Rattle.skew_algebra.specs.Wave.{folded}
use Rattle.element_kinds.specs.declared.form.Check.{Check}
use Rattle.element_kinds.specs.declared.form.Check.TheVariants.{SetupHold as AboutRise, RiseFall as RiseToFall}
use Rattle.flat_circuit.specs.declared.instance.Instance.{Instance}
use Rattle.flat_circuit.specs.declared.instance.Pin.{Pin}
use Rattle.flat_circuit.specs.Circuit.{Circuit}
use Rattle.flat_circuit.specs.Instances.{PinExists}
use Rattle.fixpoint_engine.specs.Pins.{read}
use Rattle.fixpoint_engine.specs.Waves.{Waves, pin_wave}
use Rattle.fixpoint_engine.proofs.Fits.{long_pin}
use Rattle.fixpoint_engine.proofs.ReadSlots.{length_folded, read_folded}
use Rattle.point_check.specs.Window.{Folds}
use Rattle.critical_paths.specs.declared.direction.Direction.TheVariants.{Rise, Change}
use Rattle.critical_paths.specs.declared.path.Paths.{Paths}
use Rattle.critical_paths.specs.declared.region.Slots.{Slots}
use Rattle.critical_paths.specs.declared.region.Test.TheVariants.{May}
use Rattle.critical_paths.specs.Event.{Events, events, moves}
use Rattle.critical_paths.specs.Region.{IsCyclic, regions}
use Rattle.critical_paths.specs.Views.{passing, ticks_of_region}
use Rattle.slack_rows.specs.declared.held.Held.{Held}
use Rattle.slack_rows.specs.declared.slack.Slacks.{Slacks}
use Rattle.slack_rows.specs.Held.{AreSlots}
use Rattle.slack_rows.specs.Limit.{edge_limits, has_no_window, pin_folds, rises_of, spans_of}
use Rattle.slack_rows.specs.Sides.{AreAboutEdges, AreOfChecker, IsHeldInput, clock_edges, has_windows}
use Rattle.slack_rows.specs.Watch.{rise_watch, span_watch, spans}
use Rattle.slack_rows.proofs.Checkers.{folds_repeat}
use Rattle.slack_rows.proofs.Checking.{exists_at}
use Rattle.slack_rows.proofs.Parting.{folds_are}
use Rattle.slack_rows.proofs.Watching.{may_are}

-- ---- what a pin shows

-- the cells are the fold of its wave
pub record ShowsPin (c : Circuit) (ws : Waves) (j : Instance) (i : ℕ) (cells : List Value) : Type 0 where
  pub long : length cells ≡ period c.header
  pub folds : read cells ≡ pin_folds c ws j i
  pub cyclic : IsCyclic (period c.header) (events Change (pin_folds c ws j i))

module _ (c : Circuit) (ws : Waves) (j : Instance) (i : ℕ) (pin : Pin) (cells : List Value)
    (each : (k : ℕ) → k < length c.nets → length (ws k).cells ≡ period c.header)
    (exist : All (PinExists (length c.nets)) j.pins) (at : slice_get j.pins i ≡ Some pin)
    (are : cells ≡ folded values (pin_wave c ws pin)) where
  same : length (pin_wave c ws pin).cells ≡ period c.header
  same = long_pin c ws pin each (exists_at (length c.nets) j.pins i pin exist at)

  -- as many as the period has slots
  pub shows_long : length cells ≡ period c.header
  shows_long = length_folded (pin_wave c ws pin) cells are ∙ same

  pub shows_pin : 2 ≤ period c.header → ShowsPin c ws j i cells
  shows_pin some =
      record {
        long = shows_long;
        folds = read_folded (pin_wave c ws pin) cells (omega (arith, some, same)) are ∙ sym (folds_are c ws j i pin at);
        cyclic = subst (λ (f : Folds). IsCyclic (period c.header) (events Change f)) (sym (folds_are c ws j i pin at))
            (λ t. ap (λ (v : Value). moves Change (has v)) (folds_repeat (period c.header) (pin_wave c ws pin) same t));
      }

-- the slots in which it may change
pub changes_of : (c : Circuit) (ws : Waves) (j : Instance) (i : ℕ) (cells : List Value) (changes : Slots) → ShowsPin c ws j i cells →
    AreSlots (period c.header) (passing (May Change) cells) changes →
    AreSlots (period c.header) (events Change (pin_folds c ws j i)) changes
changes_of c ws j i cells changes shows are =
    subst (λ (ev : Events). AreSlots (period c.header) ev changes) (may_are Change cells ∙ ap (events Change) shows.folds) are

-- ---- the slacks of an input

off : (b : Bool) → not b ≡ true → b ≡ false
off true is = absurd (cc)
off false is = refl

module _ (c : Circuit) (ws : Waves) (j : Instance) (check : Check) (held : Held) (changes : Slots) (is_held : IsHeldInput j check held)
    (are : AreSlots (period c.header) (events Change (pin_folds c ws j 1)) changes) where
  abbrev about : Paths → Paths → Check → Slacks → Type 0
  about start paths x found =
      AreAboutEdges c ws start paths held (edge_limits j.limits) (map ticks_of_region (clock_edges c ws j x)) changes found

  of_checker : {E : Type 0} (r : Result Slacks E) (start paths : Paths) (x : Check) → check ≡ x → IfOk r (about start paths x) →
      IfOk r (AreOfChecker c ws start paths j check)
  of_checker r start paths x is so =
      IfOk-weaker r (about start paths x) (AreOfChecker c ws start paths j check)
      (λ found tell. record {
        held = held;
        is_held = is_held;
        changes = changes;
        changes_are = are;
        are = subst (λ (y : Check). about start paths y found) (sym is) tell;
      }) so

  -- from each rise of the clock to its last fall
  pub of_spans : {E : Type 0} (r : Result Slacks E) (start paths : Paths) (n : ℕ) (clock : Folds) → n ≡ period c.header →
      clock ≡ pin_folds c ws j 0 → check ≡ RiseToFall →
      ((input : Folds) → (span_watch n (edge_limits j.limits) clock input).never ≡ false →
      IfOk r (AreAboutEdges c ws start paths held (edge_limits j.limits) (map ticks_of_region (spans n clock)) changes)) →
      has_windows c ws j check ≡ true → IfOk r (AreOfChecker c ws start paths j check)
  of_spans r start paths n clock n_is clock_is is so windows =
      of_checker r start paths RiseToFall is
      (subst (λ (f : Folds). IfOk r (AreAboutEdges c ws start paths held (edge_limits j.limits) (map ticks_of_region (spans (period c.header) f)) changes))
      clock_is
      (subst (λ (m : ℕ). IfOk r (AreAboutEdges c ws start paths held (edge_limits j.limits) (map ticks_of_region (spans m clock)) changes)) n_is
      (so (pin_folds c ws j 1) ((λ k. (span_watch (n_is k) (edge_limits j.limits) (clock_is k) (pin_folds c ws j 1)).never)
      ∙ off (spans_of c ws j).never (sym (ap (has_windows c ws j) is) ∙ windows)))))

  -- about each rise of the clock
  pub of_rises : {E : Type 0} (r : Result Slacks E) (start paths : Paths) (clock : Folds) → clock ≡ pin_folds c ws j 0 → check ≡ AboutRise →
      ((input : Folds) → (rise_watch (period c.header) (edge_limits j.limits) clock input).never ≡ false →
      IfOk r (AreAboutEdges c ws start paths held (edge_limits j.limits) (map ticks_of_region (regions (period c.header) (events Rise clock))) changes)) →
      has_windows c ws j check ≡ true → IfOk r (AreOfChecker c ws start paths j check)
  of_rises r start paths clock clock_is is so windows =
      of_checker r start paths AboutRise is
      (subst (λ (f : Folds). IfOk r (AreAboutEdges c ws start paths held (edge_limits j.limits)
      (map ticks_of_region (regions (period c.header) (events Rise f))) changes)) clock_is
      (so (pin_folds c ws j 1) ((λ k. (rise_watch (period c.header) (edge_limits j.limits) (clock_is k) (pin_folds c ws j 1)).never)
      ∙ off (rises_of c ws j).never
      (and_parts (not (has_no_window (edge_limits j.limits))) (not (rises_of c ws j).never) (sym (ap (has_windows c ws j) is) ∙ windows)).1)))

-- a checker that asks for nothing about a rise has no window
pub no_windows : (c : Circuit) (ws : Waves) (j : Instance) (check : Check) → check ≡ AboutRise → has_no_window (edge_limits j.limits) ≡ true →
    has_windows c ws j check ≡ true → false ≡ true
no_windows c ws j check is nothing windows =
    sym (ap (λ (b : Bool). not b && not (rises_of c ws j).never) nothing) ∙ sym (ap (has_windows c ws j) is) ∙ windows
