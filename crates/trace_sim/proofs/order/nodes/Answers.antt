use Rattle.std.proofs.Common.{◌∙◌, ◌++◌, ◌∷◌, [], ap, sym, ℕ, List, map, arith}
use Rattle.std.proofs.lemmas.List.{map_push}
use Rattle.std.proofs.lemmas.List.FromFn.{map-range_with_len_more}
use Rattle.flat_circuit.specs.declared.node.Node.{Node}
use Rattle.flat_circuit.specs.Node.{node_feeders}
use Rattle.trace_sim.specs.Order.{feeders_in}
use Rattle.trace_sim.proofs.order.nodes.Goals as goal

pub loop-k-preserved : goal.loop-k-preserved
loop-k-preserved c =
    let f = feeders_in c.args.c.now in
    let node : Node = record { feeders = c.in_ok-feeders.field-0 } in
    ap (map node_feeders) c.in_ok-push.ensures.items ∙ map_push node_feeders c.loop-k.nodes.items node
    ∙ ap (λ (x : List (List ℕ)). x ++ node_feeders node ∷ []) c.loop-k.invariant
    ∙ rw c.in_ok-feeders.ensures (sym (map-range_with_len_more f 0 c.loop-k.k c.loop-k.k (omega arith)))
