use Rattle.std.proofs.Common.{None}
use Rattle.fixpoint_engine.specs.Settled.{marked_in}
use Rattle.fixpoint_engine.specs.Waves.{waves_of}
use Rattle.drawing_notes.proofs.Firsts.{with_first}
use Rattle.drawing_notes.proofs.Stepped.{SteppedTo}
use Rattle.drawing_notes.proofs.case_gates.add_firsts.Given as goal

abbrev pub invariant-loop-number : goal.invariant-loop-number
invariant-loop-number g l =
    SteppedTo None (with_first l.c (marked_in l.clocks) (marked_in l.timed) (waves_of l.waves)) l.fn.firsts l.number l.firsts
