use Rattle.std.proofs.Common.{◌≡◌, ℕ, ◌-◌, ◌<◌, None, map}
use Rattle.step_values.specs.Cell.{values}
use Rattle.gate_eval.specs.Meeting.{folds_in}
use Rattle.gate_eval.specs.Hold.{disturber}
use Rattle.gate_eval.proofs.hold.hazard_among.Given as goal

abbrev pub invariant-changes : goal.invariant-changes
invariant-changes g l =
    (k : ℕ) → k < l.slot → disturber l.kind l.marked (folds_in values (map (λ p. p.wave) l.pins) k) ≡ None

abbrev pub decreases-changes : goal.decreases-changes
decreases-changes g l = l.period - l.slot
