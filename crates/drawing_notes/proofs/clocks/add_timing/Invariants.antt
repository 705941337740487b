use Rattle.fixpoint_engine.specs.Worklist.{Adds}
use Rattle.drawing_notes.proofs.Gating.{timing_to}
use Rattle.drawing_notes.proofs.clocks.add_timing.Given as goal

abbrev pub invariant-loop-number : goal.invariant-loop-number
invariant-loop-number l = Adds (timing_to l.c l.number) l.fn.found l.found
