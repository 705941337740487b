use Rattle.std.proofs.Common.{◌≡◌, map}
use Rattle.std.specs.List.{range_with_len}
use Rattle.flat_circuit.specs.Steps.{quick_feeders, node_feeders}
use Rattle.flat_circuit.proofs.passages.nodes.Given as goal

abbrev pub invariant-loop-k : goal.invariant-loop-k
invariant-loop-k l = map node_feeders l.nodes.items ≡ map (quick_feeders l.nets.wires l.drivers l.instances) (range_with_len 0 l.k)
