use Rattle.std.proofs.Common.{◌≡◌, ℕ, ◌<◌, false, map}
use Rattle.step_values.specs.Cell.{values}
use Rattle.gate_eval.specs.Meeting.{folds_in}
use Rattle.gate_eval.specs.Hold.{moves_beside}
use Rattle.gate_eval.proofs.hold.disturber_at.Given as goal

abbrev pub invariant-loop-place : goal.invariant-loop-place
invariant-loop-place g l =
    (k : ℕ) → k < l.place → moves_beside l.marked (folds_in values (map (λ p. p.wave) l.pins) l.slot) k ≡ false
