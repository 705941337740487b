use Rattle.std.proofs.Common.{◌≡◌, ℕ, ◌-◌, ◌<◌, None, map}
use Rattle.step_values.specs.Cell.{values}
use Rattle.skew_algebra.specs.Wave.{cell_at}
use Rattle.gate_eval.specs.Hold.{disturber}
use Rattle.gate_eval.proofs.hold.is_held.Given as goal

abbrev pub invariant-changes : goal.invariant-changes
invariant-changes g l =
    (k : ℕ) → k < l.slot → disturber l.kind l.marked (map (λ w. cell_at values (g.W.CyclicWave.cells w) k) l.folds) ≡ None

abbrev pub decreases-changes : goal.decreases-changes
decreases-changes g l = l.period - l.slot
