use Rattle.std.proofs.Common.{◌≡◌, drop, take}
use Rattle.trace_tool.proofs.read.behind.Given as goal

abbrev pub invariant-loop-number : goal.invariant-loop-number
invariant-loop-number l = l.rest ≡ take l.number-index (drop l.count l.found)
