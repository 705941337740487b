use Rattle.std.proofs.Common.{◌≡◌, map}
use Rattle.std.specs.List.{range_with_len}
use Rattle.flat_circuit.specs.Node.{node_feeders}
use Rattle.trace_sim.specs.Order.{feeders_in}
use Rattle.trace_sim.proofs.order.nodes.Given as goal

abbrev pub invariant-loop-k : goal.invariant-loop-k
invariant-loop-k l = map node_feeders l.nodes.items ≡ map (feeders_in l.c) (range_with_len 0 l.k)
