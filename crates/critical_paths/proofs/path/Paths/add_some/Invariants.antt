use Rattle.std.proofs.Common.{◌≡◌, ◌≤◌}
use Rattle.std.specs.Prelude.{fold}
use Rattle.fixpoint_engine.specs.Waves.{waves_of}
use Rattle.critical_paths.specs.declared.arrival.Place.{Place}
use Rattle.critical_paths.specs.Reached.{AreWays, HaveWays, IsBehind, gathered, times_in, with_later}
use Rattle.critical_paths.proofs.path.Paths.add_some.Given as goal

abbrev pub invariant-loop-number : goal.invariant-loop-number
invariant-loop-number g l = record {
  from : l.from ≤ l.number;
  to : l.number ≤ l.to;
  is : gathered l.out ≡ fold (with_later l.view.circuit.now (waves_of l.view.waves.now) l.place l.passage)
      (gathered l.fn.out) (times_in l.self.arrivals l.from l.number);
  ways : (b : Place) → IsBehind l.view.circuit.now l.place (b, l.passage) →
      HaveWays l.view.circuit.now (waves_of l.view.waves.now) l.self.nodes b l.self.arrivals l.from l.to →
      AreWays l.view.circuit.now (waves_of l.view.waves.now) l.self.nodes l.place l.fn.out →
      AreWays l.view.circuit.now (waves_of l.view.waves.now) l.self.nodes l.place l.out;
}
