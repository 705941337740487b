use Rattle.fixpoint_engine.specs.Waves.{waves_of}
use Rattle.slack_report.specs.Hazards.{AreMarked}
use Rattle.slack_report.proofs.collected.hazards_in.Given as goal

abbrev pub invariant-loop-number : goal.invariant-loop-number
invariant-loop-number g l = AreMarked l.c (waves_of l.waves) l.found l.number
