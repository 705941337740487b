use Rattle.std.proofs.Common.{◌+◌, ◌-◌, length}
use Rattle.flat_circuit.specs.Node.{feeders_of}
use Rattle.flat_circuit.specs.Sorted.{Searching, newest_first, fresh_left, path_left}
use Rattle.flat_circuit.proofs.order_search.search.Given as goal

abbrev pub invariant-walk : goal.invariant-walk
invariant-walk l = Searching l.nodes l.initial.marks l.marks l.order.items (newest_first l.path.items) l.node l.at

abbrev pub decreases-walk : goal.decreases-walk
decreases-walk l = fresh_left l.marks l.nodes + path_left l.nodes l.path.items + (length (feeders_of l.nodes l.node) - l.at) + 1
