use Rattle.std.proofs.Common.{◌≡◌, ℕ, ◌-◌, ◌<◌, None, length}
use Rattle.fixpoint_engine.specs.Pins.{read}
use Rattle.point_check.specs.Point.{edge_fault}
use Rattle.point_check.proofs.edges.first_fault.Given as goal

abbrev pub invariant-edges : goal.invariant-edges
invariant-edges g l =
    (k : ℕ) → k < l.edge → edge_fault l.kind (length (g.W.CyclicWave.cells l.clock)) l.instance (read (g.W.CyclicWave.cells l.clock)) (read (g.W.CyclicWave.cells l.input)) l.limits k ≡ None

abbrev pub decreases-edges : goal.decreases-edges
decreases-edges g l = length (g.W.CyclicWave.cells l.clock) - l.edge
