use Rattle.std.proofs.Common.{false}
use Rattle.fixpoint_engine.specs.Waves.{waves_of}
use Rattle.drawing_notes.proofs.Acting.{acts_too}
use Rattle.drawing_notes.proofs.Stepped.{SteppedTo}
use Rattle.drawing_notes.proofs.unclocked.add_acts.Given as goal

abbrev pub invariant-loop-number : goal.invariant-loop-number
invariant-loop-number g l = SteppedTo false (acts_too l.c (waves_of l.waves)) l.fn.acts l.number l.acts
