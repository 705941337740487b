use Rattle.fixpoint_engine.specs.Waves.{waves_of}
use Rattle.critical_paths.proofs.Ending.{AreMovers}
use Rattle.critical_paths.proofs.view.View.mover.Given as goal

-- those of the pins so far
abbrev pub invariant-loop-place : goal.invariant-loop-place
invariant-loop-place g l =
    AreMovers l.self.circuit.now (waves_of l.self.waves.now) l.asked.element.now l.place l.moving
