use Rattle.std.proofs.Common.{◌-◌, ◌≤◌, length}
use Rattle.trace_tool.proofs.take.no_bits.Given as goal

abbrev pub invariant-bits : goal.invariant-bits
invariant-bits l = length l.bits ≤ l.count

abbrev pub decreases-bits : goal.decreases-bits
decreases-bits l = l.count - length l.bits
