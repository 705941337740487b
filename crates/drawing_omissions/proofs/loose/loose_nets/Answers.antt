use Rattle.std.proofs.Common.{◌<◌, ℕ, List, filter, length, ap, ◌∙◌, arith}
use Rattle.std.proofs.lemmas.List.{take_all}
use Rattle.flat_circuit.proofs.Numbered.{order_long}
use Rattle.drawing_omissions.specs.Loose.{is_loose}
use Rattle.drawing_omissions.proofs.Loosing.{loose_more}
use Rattle.drawing_omissions.proofs.loose.loose_nets.Goals as goal

pub loop-place-preserved : goal.loop-place-preserved
loop-place-preserved c = λ cases set.
    let circuit = c.args.c.now in
    let long = order_long circuit.nets circuit.order c.known.ensures.by_name in
    let within : c.loop-place.place < length circuit.order = omega (arith, long, c.net_count-place-end.ensures, c.loop-place-test.true) in
    loose_more (is_loose circuit cases) circuit.order c.loop-place.place c.net_at-net.result c.is_loose.result c.loop-place.nets.items c.add_if.new.nets.items within
    c.net_at-net.ensures (c.loop-place.invariant cases set) (c.is_loose.ensures cases set) c.in_ok-add_if.ensures

pub returns : goal.returns
returns c = λ cases set.
    let circuit = c.args.c.now in
    let long = order_long circuit.nets circuit.order c.known.ensures.by_name in
    c.loop-place.invariant cases set
    ∙ ap (λ (l : List ℕ). filter (is_loose circuit cases) l)
    (take_all c.loop-place.place circuit.order (omega (arith, long, c.net_count-place-end.ensures, c.loop-place-test.false)))
