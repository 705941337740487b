use Rattle.std.proofs.Common.{arith}
use Rattle.flat_circuit.proofs.OrderWalk.{all_sorted}
use Rattle.flat_circuit.proofs.order_search.sorted.Goals as goal

pub returns : goal.returns
returns c = all_sorted c.args.nodes.now c.loop-root.marks.items c.loop-root.order.items c.loop-root.invariant.marks c.loop-root.invariant.none (λ i h. c.loop-root.invariant.seen i (omega arith))
