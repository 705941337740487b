use Rattle.std.proofs.Common.{length}
use Rattle.trace_tool.proofs.Cutting.{Passed}
use Rattle.trace_tool.proofs.split.split_trace.Given as goal

abbrev pub invariant-lines : goal.invariant-lines
invariant-lines l = Passed l.text l.rest

abbrev pub decreases-lines : goal.decreases-lines
decreases-lines l = length l.rest
