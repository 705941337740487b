use Rattle.std.proofs.Common.{◌-◌, ◌≤◌, length}
use Rattle.trace_tool.proofs.take.no_wires.Given as goal

abbrev pub invariant-wires : goal.invariant-wires
invariant-wires l = length l.wires ≤ l.count

abbrev pub decreases-wires : goal.decreases-wires
decreases-wires l = l.count - length l.wires
