use Rattle.std.proofs.Common.{length}
use Rattle.fixpoint_engine.specs.Settled.{marked_in}
use Rattle.case_analysis.specs.Case.{case_active}
use Rattle.case_analysis.proofs.Marked.{MarkedTo}
use Rattle.case_analysis.proofs.reached.driven_in.Given as goal

abbrev pub invariant-loop-net : goal.invariant-loop-net
invariant-loop-net l = MarkedTo (case_active l.c (marked_in l.cone)) (length l.c.nets) l.net l.active
