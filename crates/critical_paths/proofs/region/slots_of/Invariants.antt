use Rattle.std.proofs.Common.{◌≡◌, ◌-◌, ◌≤◌, length}
use Rattle.critical_paths.proofs.Finding.{so_far_of}
use Rattle.critical_paths.proofs.region.slots_of.Given as goal

abbrev pub invariant-runs : goal.invariant-runs
invariant-runs g l = record {
  within : l.slot ≤ length (g.W.CyclicWave.cells l.wave);
  found : l.regions ≡ so_far_of l.test (g.W.CyclicWave.cells l.wave) l.slot;
}

abbrev pub decreases-runs : goal.decreases-runs
decreases-runs g l = length (g.W.CyclicWave.cells l.wave) - l.slot
