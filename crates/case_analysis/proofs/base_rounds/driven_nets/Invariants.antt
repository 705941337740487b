use Rattle.std.proofs.Common.{length}
use Rattle.fixpoint_engine.specs.Start.{is_driven}
use Rattle.case_analysis.proofs.Marked.{MarkedTo}
use Rattle.case_analysis.proofs.base_rounds.driven_nets.Given as goal

abbrev pub invariant-loop-net : goal.invariant-loop-net
invariant-loop-net l = MarkedTo (is_driven l.c) (length l.c.nets) l.net l.driven
