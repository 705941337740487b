use Rattle.scald_base.specs.Time.{period}
use Rattle.fixpoint_engine.specs.Waves.{waves_of}
use Rattle.critical_paths.specs.Tick.{slot_of}
use Rattle.critical_paths.proofs.Causing.{AreFirst}
use Rattle.critical_paths.proofs.view.View.cause.Given as goal

abbrev pub invariant-loop-place : goal.invariant-loop-place
invariant-loop-place g l =
    AreFirst l.self.circuit.now (waves_of l.self.waves.now) l.asked.element.now l.asked.corner
    l.asked.direction
    (slot_of (period l.self.circuit.now.header) l.asked.tick) l.place l.found
