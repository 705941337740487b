use Rattle.trace_tool.proofs.Written.{AreWritten}
use Rattle.trace_tool.proofs.write.write_trace.Given as goal

abbrev pub invariant-loop-place : goal.invariant-loop-place
invariant-loop-place l = AreWritten l.c l.trace l.place l.fn.out l.out
