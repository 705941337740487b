use Rattle.std.proofs.Common.{arith}
use Rattle.trace_tool.proofs.mark.mark_end.Goals as goal

pub returns : goal.returns
returns c = λ t less. c.loop-t.invariant t (omega arith)
