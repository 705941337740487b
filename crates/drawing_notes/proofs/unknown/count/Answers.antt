use Rattle.std.proofs.Common.{◌≡◌, ◌+◌, ◌<◌, ◌≤◌, ◌∙◌, ℕ, List, length, take, ap, sym, subst, arith}
use Rattle.std.specs.List.{filter, list_any}
use Rattle.std.proofs.lemmas.List.{take_all}
use Rattle.step_values.specs.declared.value.Value.{Value}
use Rattle.step_values.specs.Steps.{is_unknown}
use Rattle.skew_algebra.specs.Wave.{Wave}
use Rattle.flat_circuit.specs.Circuit.{net_names}
use Rattle.flat_circuit.specs.Name.{net_at}
use Rattle.flat_circuit.proofs.Names.{order_in}
use Rattle.flat_circuit.proofs.Numbered.{order_long}
use Rattle.fixpoint_engine.specs.Waves.{waves_of}
use Rattle.drawing_notes.specs.Unknown.{IsCounted, and_net, has_unknown}
use Rattle.drawing_notes.proofs.Counting.{counted_few, counted_more, names_long}
use Rattle.drawing_notes.proofs.unknown.count.Goals as goal

pub at-requires : goal.at-requires
at-requires g c =
    let order = c.args.c.now.order in
    let long = order_long c.args.c.now.nets order c.known.ensures.by_name in
    let within : c.loop-place.place < length order = omega (arith, long, c.net_count-place-end.ensures, c.loop-place-test.true) in
    let inside : net_at order c.loop-place.place < length (net_names c.args.c.now.nets) =
    order_in (net_names c.args.c.now.nets) order c.loop-place.place 0 c.known.ensures.by_name within in
    let named = names_long c.args.c.now.nets in
    subst (λ n. n < length c.args.waves.now) (sym c.net_at-net.ensures) (omega (arith, inside, named, c.requires.fit.each_net))

pub and-counted-requires : goal.and-counted-requires
and-counted-requires g c =
    let order = c.args.c.now.order in
    let long = order_long c.args.c.now.nets order c.known.ensures.by_name in
    let few = c.known.ensures.few_nets in
    let within : c.loop-place.place ≤ length order = omega (arith, long, c.net_count-place-end.ensures, c.loop-place-test.true) in
    let counted = counted_few (has_unknown (waves_of c.args.waves.now)) order c.loop-place.place c.loop-place.counted within c.loop-place.invariant in
    omega (arith, counted, few, within, long)

pub loop-place-preserved : goal.loop-place-preserved
loop-place-preserved g c =
    let order = c.args.c.now.order in
    let net = c.net_at-net.result in
    let unknown = has_unknown (waves_of c.args.waves.now) in
    let long = order_long c.args.c.now.nets order c.known.ensures.by_name in
    let within : c.loop-place.place < length order = omega (arith, long, c.net_count-place-end.ensures, c.loop-place-test.true) in
    let answered : c.has_unknown.result ≡ unknown net =
    c.has_unknown.ensures ∙ ap (list_any is_unknown) (c.wave.ensures ∙ ap (λ (w : Wave Value). w.cells) c.at.ensures) in
    subst (IsCounted (filter unknown (take (c.loop-place.place + 1) order))) (sym (c.and-counted.ensures ∙ ap (and_net c.loop-place.counted net) answered))
    (counted_more unknown order c.loop-place.place net within c.net_at-net.ensures c.loop-place.counted c.loop-place.invariant)

pub returns : goal.returns
returns g c =
    let long = order_long c.args.c.now.nets c.args.c.now.order c.known.ensures.by_name in
    subst (λ (l : List ℕ). IsCounted (filter (has_unknown (waves_of c.args.waves.now)) l) c.loop-place.counted)
    (take_all c.loop-place.place c.args.c.now.order (omega (arith, long, c.net_count-place-end.ensures, c.loop-place-test.false))) c.loop-place.invariant
