use Rattle.std.proofs.Common.{◌-◌, ◌≤◌, length}
use Rattle.listing.specs.Run.{runs_text}
use Rattle.listing.proofs.Parts.{Lacks}
use Rattle.listing.proofs.Runs.{rest_text}
use Rattle.listing.proofs.run.add_runs.Given as goal

abbrev pub invariant-runs : goal.invariant-runs
invariant-runs g l = record {
  ended : g.W.CyclicWave.ends_at l.wave l.count l.slot;
  few : l.count ≤ l.slot;
  within : l.slot ≤ length (g.W.CyclicWave.cells l.wave);
  written : Lacks l.fn.out l.out (rest_text (g.W.CyclicWave.cells l.wave) l.slot) (runs_text (g.W.CyclicWave.cells l.wave));
}

abbrev pub decreases-runs : goal.decreases-runs
decreases-runs g l = l.period - l.slot
