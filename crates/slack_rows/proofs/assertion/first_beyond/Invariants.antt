use Rattle.std.proofs.Common.{◌≡◌, ℕ, ◌-◌, ◌<◌, false, length}
use Rattle.fixpoint_engine.specs.Pins.{read}
use Rattle.point_check.specs.Assertion.{exceeds}
use Rattle.slack_rows.proofs.assertion.first_beyond.Given as goal

abbrev pub invariant-changes : goal.invariant-changes
invariant-changes g l = (k : ℕ) → k < l.slot → exceeds (read (g.W.CyclicWave.cells l.fold) k) (read (g.W.CyclicWave.cells l.wide) k) ≡ false

abbrev pub decreases-changes : goal.decreases-changes
decreases-changes g l = length (g.W.CyclicWave.cells l.fold) - l.slot
