use Rattle.std.proofs.Common.{◌≡◌, ◌<◌, ◌+◌, ◌*◌, ◌∙◌, ℕ, List, length, get_or, refl, sym, ap, subst, arith}
use Rattle.std.proofs.lemmas.List.{length-replicate, length-set}
use Rattle.flat_circuit.proofs.FewNodes.{order_few}
use Rattle.fixpoint_engine.specs.Waves.{waves_of}
use Rattle.drawing_notes.specs.declared.launched.Edges.{Edges}
use Rattle.drawing_notes.specs.Arrivals.{AreSmall, EdgesUpTo, edges_at, made_at, no_edges}
use Rattle.drawing_notes.proofs.Placing.{inside_order, placed_start, placed_more, placed_end}
use Rattle.drawing_notes.proofs.Small.{small_more, small_none, small_weaker}
use Rattle.drawing_omissions.proofs.Written.{same_at}
use Rattle.drawing_notes.proofs.launched.all_edges.Goals as goal

pub loop-net-init : goal.loop-net-init
loop-net-init g c =
    let v = c.args.view.now in
    let items = c.in_ok-edges.ensures in
    let none : (i : ℕ) → edges_at c.in_ok-edges.edges.items i ≡ no_edges =
    λ i. ap (λ (xs : List Edges). edges_at xs i) items ∙ same_at no_edges c.net_count.result i in
    let each = ap length items ∙ length-replicate c.net_count.result no_edges ∙ c.net_count.ensures in
    record {
      placed = λ looped sees order. placed_start v.circuit.now looped (waves_of v.waves.now) c.args.order.now c.in_ok-edges.edges.items each none;
      each_net = each;
      counted = refl;
      small = small_none 0 c.in_ok-edges.edges.items none;
    }

pub overflow_cast-net : goal.overflow_cast-net
overflow_cast-net g c =
    let v = c.args.view.now in
    let order = c.requires.order in
    let inside = inside_order v.circuit.now order.0 (waves_of v.waves.now) c.args.order.now order.1 c.loop-net.net-index c.loop-net-test.true in
    omega (arith, inside, c.known.ensures.few_nets)

pub made_at-made-requires-clause-small : goal.made_at-made-requires-clause-small
made_at-made-requires-clause-small g c =
    subst (AreSmall c.loop-net.steps) (sym c.deref.ensures.value)
    (subst (λ n. AreSmall n c.loop-net.edges.items) (sym c.loop-net.invariant.counted) c.loop-net.invariant.small)

pub index_mut-requires : goal.index_mut-requires
index_mut-requires g c =
    let v = c.args.view.now in
    let order = c.requires.order in
    let inside = inside_order v.circuit.now order.0 (waves_of v.waves.now) c.args.order.now order.1 c.loop-net.net-index c.loop-net-test.true in
    omega (arith, inside, c.loop-net.invariant.each_net, c.loop-net.edges.ok.0)

pub overflow_add-steps : goal.overflow_add-steps
overflow_add-steps g c =
    let v = c.args.view.now in
    let order = c.requires.order in
    let few = order_few order.1.feeders (length v.circuit.now.nets) c.args.order.now order.1.sorted in
    omega (arith, few, c.loop-net.invariant.counted, c.loop-net-test.true, c.known.ensures.few_nets)

pub loop-net-preserved : goal.loop-net-preserved
loop-net-preserved g c =
    let v = c.args.view.now in
    let ws = waves_of v.waves.now in
    let items = c.args.order.now in
    let order = c.requires.order in
    let k = c.loop-net.net-index in
    let inside = inside_order v.circuit.now order.0 ws items order.1 k c.loop-net-test.true in
    let below : get_or items k 0 < length c.loop-net.edges.items = omega (arith, inside, c.loop-net.invariant.each_net) in
    let made = c.made_at-made.result in
    let made_small = subst (λ n. EdgesUpTo (131070 * (n + 1)) made) c.loop-net.invariant.counted c.made_at-made.ensures.small in
    record {
      placed = λ looped sees is_order.
          placed_more v.circuit.now looped ws items is_order k c.loop-net.edges.items _ made c.loop-net-test.true
          (c.made_at-made.ensures.is looped sees ∙ ap (λ (xs : List Edges). made_at v.circuit.now looped ws (edges_at xs) (get_or items k 0)) c.deref.ensures.value)
          refl (c.loop-net.invariant.placed looped sees is_order);
      each_net = length-set c.loop-net.edges.items (get_or items k 0) made ∙ c.loop-net.invariant.each_net;
      counted = ap (λ n. n + 1) c.loop-net.invariant.counted;
      small = small_more k (get_or items k 0) c.loop-net.edges.items _ made below refl made_small c.loop-net.invariant.small;
    }

pub returns-clause-long : goal.returns-clause-long
returns-clause-long g c = c.loop-net.invariant.each_net

pub returns-clause-are : goal.returns-clause-are
returns-clause-are g c = λ looped sees is_order.
    let v = c.args.view.now in
    placed_end v.circuit.now looped (waves_of v.waves.now) c.args.order.now is_order c.loop-net.net-index c.loop-net.edges.items
    (omega (arith, c.loop-net-test.false, c.loop-net.auto)) (c.loop-net.invariant.placed looped sees is_order)

pub returns-clause-small : goal.returns-clause-small
returns-clause-small g c =
    let v = c.args.view.now in
    let order = c.requires.order in
    let few = order_few order.1.feeders (length v.circuit.now.nets) c.args.order.now order.1.sorted in
    small_weaker c.loop-net.net-index (length v.circuit.now.nets) c.loop-net.edges.items (omega (arith, few, c.loop-net.auto)) c.loop-net.invariant.small
