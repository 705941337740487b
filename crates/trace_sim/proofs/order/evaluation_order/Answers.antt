use Rattle.std.proofs.Common.{length}
use Rattle.std.proofs.lemmas.Result.{IfOk-weaker}
use Rattle.flat_circuit.specs.Node.{feeders_of}
use Rattle.flat_circuit.specs.Sorted.{IsSorted}
use Rattle.trace_sim.specs.Order.{IsEvaluationOrder}
use Rattle.trace_sim.proofs.Orders.{nodes_in, nodes_loopless, order_is}
use Rattle.trace_sim.proofs.order.evaluation_order.Goals as goal

pub sorted-requires-clause-nodes : goal.sorted-requires-clause-nodes
sorted-requires-clause-nodes c = rw c.deref.ensures.value (nodes_in c.args.c.now c.in_ok-nodes.nodes.items c.in_ok-nodes.ensures c.known.ensures)

pub sorted-requires-clause-loopless : goal.sorted-requires-clause-loopless
sorted-requires-clause-loopless c = rw c.deref.ensures.value (nodes_loopless c.args.c.now c.in_ok-nodes.nodes.items c.in_ok-nodes.ensures c.known.ensures)

pub returns : goal.returns
returns c =
    let nodes = c.in_ok-nodes.nodes.items in
    IfOk-weaker c.sorted.result (λ order. IsSorted (feeders_of nodes) (length nodes) order.items)
    (λ order. IsEvaluationOrder c.args.c.now order.items)
    (λ order s. order_is c.args.c.now nodes c.in_ok-nodes.ensures order.items c.known.ensures s) (rw c.deref.ensures.value at c.sorted.ensures)
