use Rattle.trace_tool.proofs.Cutting.{NoneEnds}
use Rattle.trace_tool.proofs.split.next_line.Given as goal

abbrev pub invariant-loop-at : goal.invariant-loop-at
invariant-loop-at l = NoneEnds l.text l.at
