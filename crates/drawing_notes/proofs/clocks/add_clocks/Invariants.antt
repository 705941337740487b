use Rattle.fixpoint_engine.specs.Worklist.{Adds}
use Rattle.drawing_notes.proofs.Gating.{clock_below}
use Rattle.drawing_notes.proofs.clocks.add_clocks.Given as goal

abbrev pub invariant-loop-net : goal.invariant-loop-net
invariant-loop-net l = Adds (clock_below l.c l.net) l.fn.found l.found
