use Rattle.std.proofs.Common.{List, refl, sym, subst}
use Rattle.std.proofs.lemmas.Result.{IfOk-weaker}
use Rattle.flat_circuit.specs.declared.node.Node.{Node}
use Rattle.flat_circuit.specs.Node.{AreInRange, AreLoopless, feeders_of}
use Rattle.drawing_notes.specs.Parts.{together}
use Rattle.drawing_notes.specs.Paths.{is_looped}
use Rattle.drawing_notes.proofs.Ordering.{feeds_node, nodes_in, nodes_loopless, order_is}
use Rattle.drawing_notes.proofs.launched.order.Goals as goal

pub sorted-requires-clause-nodes : goal.sorted-requires-clause-nodes
sorted-requires-clause-nodes c =
    subst AreInRange (sym c.deref.ensures.value)
    (nodes_in c.args.c.now (is_looped (together c.args.parts.now)) c.in_ok-nodes.nodes.items c.in_ok-nodes.ensures c.known.ensures)

pub sorted-requires-clause-loopless : goal.sorted-requires-clause-loopless
sorted-requires-clause-loopless c =
    subst (λ (nodes : List Node). AreLoopless (feeders_of nodes)) (sym c.deref.ensures.value)
    (nodes_loopless c.args.c.now (is_looped (together c.args.parts.now)) c.in_ok-nodes.nodes.items c.in_ok-nodes.ensures (together c.args.parts.now) c.requires (λ i. refl))

pub returns : goal.returns
returns c =
    let circuit = c.args.c.now in
    let looped = is_looped (together c.args.parts.now) in
    let nodes = c.in_ok-nodes.nodes.items in
    IfOk-weaker c.sorted.result _ _
    (λ order sorted. record {
      feeders = feeders_of nodes;
      sorted = order_is circuit looped nodes c.in_ok-nodes.ensures _ order.items order.items c.deref.ensures.value refl sorted;
      feeds = λ from net led from_free net_free.
          feeds_node circuit looped nodes c.in_ok-nodes.ensures from net (record { led = led; from_free = from_free; net_free = net_free });
    }) c.sorted.ensures
