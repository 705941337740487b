use Rattle.std.proofs.Common.{length, ◌-◌, ◌<◌, ◌≤◌}
use Rattle.flat_circuit.proofs.order.end_of.Given as goal

abbrev pub invariant-loop-end : goal.invariant-loop-end
invariant-loop-end l = (l.fn.begin < l.end) × (l.end ≤ length l.nets)

abbrev pub decreases-loop-end : goal.decreases-loop-end
decreases-loop-end l = length l.nets - l.end
