use Rattle.std.proofs.Common.{◌≡◌, ℕ, ◌-◌, ◌<◌, false, length}
use Rattle.fixpoint_engine.specs.Pins.{read}
use Rattle.slack_rows.specs.Held.{is_step_outside}
use Rattle.slack_rows.proofs.assertion.is_outside.Given as goal

abbrev pub invariant-changes : goal.invariant-changes
invariant-changes g l = (k : ℕ) → k < l.slot → is_step_outside (read (g.W.CyclicWave.cells l.fold) k) (read (g.W.CyclicWave.cells l.wide) k) ≡ false

abbrev pub decreases-changes : goal.decreases-changes
decreases-changes g l = length (g.W.CyclicWave.cells l.fold) - l.slot
