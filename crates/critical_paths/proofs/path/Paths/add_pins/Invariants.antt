use Rattle.std.proofs.Common.{◌≤◌, length}
use Rattle.fixpoint_engine.specs.Waves.{waves_of}
use Rattle.critical_paths.specs.Reached.{AreExact, AreThrough, AreWays, gathered}
use Rattle.critical_paths.proofs.path.Paths.add_pins.Given as goal

abbrev pub invariant-loop-number : goal.invariant-loop-number
invariant-loop-number g l = record {
  to : l.number ≤ length l.element.pins;
  are : AreExact l.view.circuit.now (waves_of l.view.waves.now) l.self →
      AreThrough l.view.circuit.now (waves_of l.view.waves.now) l.element l.place l.number
      (gathered l.fn.out) (gathered l.out);
  ways : AreExact l.view.circuit.now (waves_of l.view.waves.now) l.self →
      AreWays l.view.circuit.now (waves_of l.view.waves.now) l.self.nodes l.place l.fn.out →
      AreWays l.view.circuit.now (waves_of l.view.waves.now) l.self.nodes l.place l.out;
}
