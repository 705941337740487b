use Rattle.std.proofs.Common.{◌≡◌, ◌++◌, List, map, take}
use Rattle.fixpoint_engine.specs.Waves.{waves_of}
use Rattle.critical_paths.specs.declared.path.Node.{Node}
use Rattle.critical_paths.specs.Reached.{AreWays, end_time, gathered}
use Rattle.critical_paths.proofs.gather.add_each.Given as goal

abbrev pub invariant-loop-region : goal.invariant-loop-region
invariant-loop-region g l = record {
  is : gathered l.out ≡ gathered l.fn.out ++ map (end_time l.view.circuit.now l.place) (take l.region-index l.regions);
  ways : (nodes : List Node) → l.place.net ≡ l.place.clock →
      AreWays l.view.circuit.now (waves_of l.view.waves.now) nodes l.place l.fn.out →
      AreWays l.view.circuit.now (waves_of l.view.waves.now) nodes l.place l.out;
}
