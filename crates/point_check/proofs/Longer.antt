-- A longer setup or hold time makes each window longer at its ends, so no fault goes.
use Rattle.std.proofs.Common.{◌≡◌, ℕ, ◌+◌, ◌-◌, ◌≤◌, Bool, true, false, cond, refl, sym, ap, ◌∙◌, arith, Option, Some, None}
use Rattle.std.specs.Option.{option_map}
use Rattle.scald_base.specs.Clock.{back}
use Rattle.scald_base.proofs.Back.{back_later}
use Rattle.step_values.specs.declared.value.Value.{Value}
use Rattle.step_values.specs.Steps.{has, is_quiet}
use Rattle.step_values.specs.Cell.{values}
use Rattle.skew_algebra.specs.Wave.{Wave, fold}
use Rattle.element_kinds.specs.declared.kind.Kind.{Kind}
use Rattle.element_kinds.specs.Kinds.{check_of}
use Rattle.element_kinds.specs.declared.form.Check.{Check}
use Rattle.element_kinds.specs.declared.form.Check.TheVariants.{SetupHold as AboutRise, RiseFall as RiseToFall, MinPulse as Widths}
use Rattle.gate_eval.proofs.Found.{first_some_nowhere}
use Rattle.gate_eval.proofs.Held.{first_some_none, map_none}
use Rattle.point_check.specs.declared.window.Window.{Window}
use Rattle.point_check.specs.Window.{Folds, places, slot_at, mover_at, first_mover, fault_at, window_fault}
use Rattle.point_check.specs.Point.{first_low, last_fall, falls_somewhere, to_last_fall, all_round, high_window_to, window_by, window_if, window_of, edge_fault, checker_fault}
use Rattle.point_check.specs.Laws.{LongerTimesKeepFaults}
use Rattle.flat_circuit.specs.declared.limits.Limits.TheVariants.{Edges}

-- ---- windows

-- the one window is the other or goes further at its ends
pub record IsWithin (w wider : Window) : Type 0 where
  pub setup : w.setup ≤ wider.setup
  pub high : w.high ≡ wider.high
  pub hold : w.hold ≤ wider.hold

quiet_by : (b : Bool) (n : ℕ) → cond b None (Some n) ≡ None → b ≡ true
quiet_by true n none = refl
quiet_by false n none = absurd (cc)

module _ (p : ℕ) (some : 1 ≤ p) (input : Folds) (t : ℕ) (w wider : Window) (within : IsWithin w wider) where
  abbrev sooner : ℕ
  sooner = wider.setup - w.setup

  -- a place of the window is one of the wider window
  same_slot : (place : ℕ) → slot_at p wider t (place + sooner) ≡ slot_at p w t place
  same_slot place =
      let longer = within.setup in
      let at : t + 1 + (place + sooner) ≡ t + 1 + place + sooner = omega arith in
      let back_by : wider.setup ≡ sooner + w.setup = omega (arith, longer) in
      ap (λ (n : ℕ). back p n wider.setup) at
      ∙ ap (back p (t + 1 + place + sooner)) back_by
      ∙ back_later p (t + 1 + place) sooner w.setup (omega (arith, some))

  still_none : (place : ℕ) → mover_at p input wider t (place + sooner) ≡ None → mover_at p input w t place ≡ None
  still_none place none =
      let quiet : is_quiet (input (slot_at p wider t (place + sooner))) ≡ true =
      quiet_by (is_quiet (input (slot_at p wider t (place + sooner)))) (place + sooner) none in
      ap (λ (b : Bool). cond b None (Some place)) (sym (ap (λ (s : ℕ). is_quiet (input s)) (same_slot place)) ∙ quiet)

  no_mover : first_mover p input wider t ≡ None → first_mover p input w t ≡ None
  no_mover none =
      first_some_nowhere (mover_at p input w t) (places w) 0 (λ place below.
      let longer = within.setup in
      let same = within.high in
      let after = within.hold in
      still_none place
      (first_some_none (mover_at p input wider t) (places wider) 0 (place + sooner) none (omega arith)
      (omega (arith, below, longer, same, after))))

  no_window_fault : (k : ℕ) → window_fault p k input t (Some wider) ≡ None → window_fault p k input t (Some w) ≡ None
  no_window_fault k none =
      ap (option_map (fault_at p k input w t)) (no_mover (map_none (fault_at p k input wider t) (first_mover p input wider t) none))

-- if there is a window, there is one that it is within
abbrev AreWithin : Option Window → Option Window → Type 0
AreWithin None wider = Unit {0}
AreWithin (Some w) None = ⊥
AreWithin (Some w) (Some wider) = IsWithin w wider

no_fault_by : (p : ℕ) → 1 ≤ p → (k : ℕ) (input : Folds) (t : ℕ) (w wider : Option Window) → AreWithin w wider →
    window_fault p k input t wider ≡ None → window_fault p k input t w ≡ None
no_fault_by p some k input t None wider within none = refl
no_fault_by p some k input t (Some w) None within none = absurd within
no_fault_by p some k input t (Some w) (Some wider) within none = no_window_fault p some input t w wider within k none

-- ---- the windows of an edge

module _ (setup hold longer_setup longer_hold : ℕ) (before : setup ≤ longer_setup) (after : hold ≤ longer_hold) where
  fall_within : (high : Option ℕ) → AreWithin (to_last_fall (Edges setup hold) high) (to_last_fall (Edges longer_setup longer_hold) high)
  fall_within None = tt
  fall_within (Some high) = record { setup = before; high = refl; hold = after }

  round_within : (p : ℕ) (falls : Bool) → AreWithin (all_round p (Edges setup hold) falls) (all_round p (Edges longer_setup longer_hold) falls)
  round_within p true = record { setup = before; high = refl; hold = omega arith }
  round_within p false = tt

  high_within : (p : ℕ) (clock : Folds) (t : ℕ) (low : Option ℕ) →
      AreWithin (high_window_to p clock (Edges setup hold) t low) (high_window_to p clock (Edges longer_setup longer_hold) t low)
  high_within p clock t (Some m) = fall_within (last_fall clock t m)
  high_within p clock t None = round_within p (falls_somewhere p clock)

  by_within : (check : Check) (p : ℕ) (clock : Folds) (t : ℕ) →
      AreWithin (window_by check p clock (Edges setup hold) t) (window_by check p clock (Edges longer_setup longer_hold) t)
  by_within AboutRise p clock t = record { setup = before; high = refl; hold = after }
  by_within RiseToFall p clock t = high_within p clock t (first_low p clock t)
  by_within Widths p clock t = tt

  if_within : (check : Option Check) (p : ℕ) (clock : Folds) (t : ℕ) →
      AreWithin (window_if check p clock (Edges setup hold) t) (window_if check p clock (Edges longer_setup longer_hold) t)
  if_within None p clock t = tt
  if_within (Some check) p clock t = by_within check p clock t

  -- ---- faults

  edge_either : (rises : Bool) (p : ℕ) → 1 ≤ p → (k : ℕ) (input : Folds) (t : ℕ) (w wider : Option Window) → AreWithin w wider →
      cond rises (window_fault p k input t wider) None ≡ None → cond rises (window_fault p k input t w) None ≡ None
  edge_either true p some k input t w wider within none = no_fault_by p some k input t w wider within none
  edge_either false p some k input t w wider within none = refl

  no_edge_fault : (kind : Kind) (p : ℕ) → 1 ≤ p → (k : ℕ) (clock input : Folds) (t : ℕ) →
      edge_fault kind p k clock input (Edges longer_setup longer_hold) t ≡ None → edge_fault kind p k clock input (Edges setup hold) t ≡ None
  no_edge_fault kind p some k clock input t none =
      edge_either (has (clock t) false true) p some k input t
      (window_of kind p clock (Edges setup hold) t) (window_of kind p clock (Edges longer_setup longer_hold) t)
      (if_within (check_of kind) p clock t) none

  pub no_checker_fault : (kind : Kind) (p : ℕ) → 1 ≤ p → (k : ℕ) (clock input : Wave Value) →
      checker_fault kind p k clock input (Edges longer_setup longer_hold) ≡ None → checker_fault kind p k clock input (Edges setup hold) ≡ None
  unfolding checker_fault
  no_checker_fault kind p some k clock input none =
      first_some_nowhere (edge_fault kind p k (fold values clock) (fold values input) (Edges setup hold)) p 0 (λ t below.
      no_edge_fault kind p some k (fold values clock) (fold values input) t
      (first_some_none (edge_fault kind p k (fold values clock) (fold values input) (Edges longer_setup longer_hold)) p 0 t none (omega arith) below))

pub longer_times_keep_faults : LongerTimesKeepFaults
longer_times_keep_faults c ws k j setup hold longer_setup longer_hold some before after none =
    no_checker_fault setup hold longer_setup longer_hold before after j.kind _ some k _ _ none
