use Rattle.std.proofs.Common.{◌≡◌, ℕ, ◌-◌, ◌<◌, ◌≤◌}
use Rattle.draw_report.specs.Wave.{cell_at}
use Rattle.draw_report.proofs.run.run_end.Given as goal

abbrev pub invariant-loop-end : goal.invariant-loop-end
invariant-loop-end g l = record {
  later : l.slot < l.end;
  same : (k : ℕ) → l.slot ≤ k → k < l.end →
      cell_at (g.W.CyclicWave.cells l.wave) k ≡ cell_at (g.W.CyclicWave.cells l.wave) l.slot;
}

abbrev pub decreases-loop-end : goal.decreases-loop-end
decreases-loop-end g l = l.limit - l.end
