use Rattle.std.proofs.Common.{◌≡◌, ℕ, ◌<◌, false, map}
use Rattle.step_values.specs.Cell.{values}
use Rattle.skew_algebra.specs.Wave.{cell_at}
use Rattle.gate_eval.specs.Hold.{moves_beside}
use Rattle.gate_eval.proofs.hold.disturber_among.Given as goal

abbrev pub invariant-loop-pin : goal.invariant-loop-pin
invariant-loop-pin g l =
    (k : ℕ) → k < l.pin → moves_beside l.marked (map (λ w. cell_at values (g.W.CyclicWave.cells w) l.slot) l.folds) k ≡ false
