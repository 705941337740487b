use Rattle.std.proofs.Common.{◌-◌, length}
use Rattle.fixpoint_engine.specs.Waves.{waves_of}
use Rattle.critical_paths.specs.Walk.{stop_count}
use Rattle.critical_paths.specs.Known.{Walked}
use Rattle.critical_paths.proofs.path.Paths.walk.Given as goal

abbrev pub invariant-links : goal.invariant-links
invariant-links g l = Walked l.view.circuit.now (waves_of l.view.waves.now) l.self.met.entries
    l.fn.start l.chain.entries l.stop

abbrev pub decreases-links : goal.decreases-links
decreases-links g l = stop_count l.view.circuit.now - length l.chain.entries
