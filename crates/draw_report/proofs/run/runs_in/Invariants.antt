use Rattle.std.proofs.Common.{◌≡◌, ◌-◌, ◌≤◌, ◌++◌}
use Rattle.draw_report.specs.Wave.{runs_from}
use Rattle.draw_report.proofs.Runs.{rest_from}
use Rattle.draw_report.proofs.run.runs_in.Given as goal

abbrev pub invariant-loop-slot : goal.invariant-loop-slot
invariant-loop-slot g l = record {
  all : l.runs ++ rest_from (g.W.CyclicWave.cells l.wave) l.from l.slot l.limit
      ≡ runs_from (g.W.CyclicWave.cells l.wave) l.from l.count;
  after : l.from ≤ l.slot;
}

abbrev pub decreases-loop-slot : goal.decreases-loop-slot
decreases-loop-slot g l = l.limit - l.slot
