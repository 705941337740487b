use Rattle.std.proofs.Common.{◌≡◌, ◌≤◌, ◌-◌, drop, fold, length}
use Rattle.fixpoint_engine.specs.Feed.{cells_fed}
use Rattle.fixpoint_engine.proofs.feed.feed.Given as goal

abbrev pub invariant-runs : goal.invariant-runs
invariant-runs g l = record {
  within : l.slot ≤ length (g.W.CyclicWave.cells l.wave);
  ended : g.W.CyclicWave.ends_at l.wave l.count l.slot;
  few : l.count ≤ l.slot;
  fed : fold g.H.Hasher.write l.state (cells_fed (drop l.slot (g.W.CyclicWave.cells l.wave)))
      ≡ fold g.H.Hasher.write l.initial.state (cells_fed (g.W.CyclicWave.cells l.wave));
}

abbrev pub decreases-runs : goal.decreases-runs
decreases-runs g l = l.period - l.slot
