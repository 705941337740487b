use Rattle.std.proofs.Common.{◌≡◌, ◌+◌, ◌-◌, ◌≤◌, true, false}
use Rattle.step_values.specs.Steps.{has}
use Rattle.fixpoint_engine.specs.Pins.{read}
use Rattle.point_check.specs.Point.{last_to}
use Rattle.point_check.proofs.edges.last_fall.Given as goal

abbrev pub invariant-runs : goal.invariant-runs
invariant-runs g l = record {
  begun : 1 ≤ l.fall;
  within : l.fall ≤ l.low + 1;
  last : l.last ≡ last_to (λ k. has (read (g.W.CyclicWave.cells l.clock) (l.edge + k)) true false) (l.fall - 1);
}

abbrev pub decreases-runs : goal.decreases-runs
decreases-runs g l = l.low + 1 - l.fall
