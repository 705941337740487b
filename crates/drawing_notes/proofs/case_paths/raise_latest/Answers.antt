use Rattle.std.proofs.Common.{◌∙◌, List, None, get_or, refl, ap, arith}
use Rattle.fixpoint_engine.specs.Waves.{waves_of}
use Rattle.drawing_notes.specs.declared.launched.Edges.{Edges}
use Rattle.drawing_notes.specs.Arrivals.{edges_at, later}
use Rattle.drawing_notes.proofs.Raising.{latest_all, with_edges}
use Rattle.drawing_notes.proofs.Stepped.{stepped_put, stepped_start}
use Rattle.drawing_notes.proofs.case_paths.raise_latest.Goals as goal

pub loop-net-init : goal.loop-net-init
loop-net-init g c = stepped_start None (with_edges c.in_ok-edges.edges.items) c.args.latest.now

pub loop-net-preserved : goal.loop-net-preserved
loop-net-preserved g c =
    let n = c.loop-net.net in
    stepped_put None (with_edges c.in_ok-edges.edges.items) c.args.latest.now n c.loop-net.latest _ c.later-in-loop-net.result
    (omega (arith, c.requires.long, c.loop-net-test.true, c.loop-net.auto.net-end, c.net_count-net-end.ensures))
    (c.later-in-loop-net.ensures
    ∙ ap (later (get_or c.loop-net.latest n None)) (c.later.ensures
    ∙ ap (λ (e : Edges). later e.rise e.fall) (c.edges_at-found.ensures ∙ ap (λ (xs : List Edges). edges_at xs n) c.deref.ensures.value)))
    refl c.loop-net.invariant

pub returns : goal.returns
returns g c = λ looped sees order.
    let v = c.args.view.now in
    latest_all v.circuit.now looped (waves_of v.waves.now) c.in_ok-edges.edges.items c.args.latest.now c.loop-net.latest c.loop-net.net c.in_ok-edges.ensures.long
    (omega (arith, c.loop-net-test.false, c.net_count-net-end.ensures)) (c.in_ok-edges.ensures.are looped sees order) c.in_ok-edges.ensures.small c.loop-net.invariant
