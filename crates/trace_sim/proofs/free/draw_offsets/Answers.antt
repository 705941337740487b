use Rattle.std.proofs.Common.{arith, ◌≡◌, ◌∙◌, List, ℕ, ap, get_or, slice_get, sym, take}
use Rattle.std.proofs.lemmas.List.{take_all, take_more}
use Rattle.flat_circuit.proofs.Numbered.{order_long}
use Rattle.trace_sim.specs.Draw.{draw_each}
use Rattle.trace_sim.specs.Drawn.{draw_offset}
use Rattle.trace_sim.proofs.Each.{each_more}
use Rattle.trace_sim.proofs.free.draw_offsets.Goals as goal

pub loop-place-preserved : goal.loop-place-preserved
loop-place-preserved g c =
    let circuit = c.args.c.now in
    let place = c.loop-place.place in
    let start = g.R.Rng.stream c.args.rng.now in
    let after = g.R.Rng.stream c.draw_offset.new.rng in
    let draw = λ (n : ℕ). draw_offset circuit.header (slice_get circuit.nets n) in
    let long = order_long circuit.nets circuit.order c.known.ensures.by_name in
    let next = take_more circuit.order place 0 (omega (arith, long, c.loop-place-test.true, c.net_count-place-end.ensures)) in
    ap (λ (ns : List ℕ). (ns, after)) c.in_ok-push.ensures.ok
    ∙ each_more draw (take place circuit.order) (get_or circuit.order place 0) start (g.R.Rng.stream c.loop-place.rng) after c.loop-place.shifts c.draw_offset.result
    c.loop-place.invariant (c.draw_offset.ensures ∙ ap (λ n. draw n (g.R.Rng.stream c.loop-place.rng)) c.net_at.ensures)
    ∙ ap (λ (ns : List ℕ). draw_each draw ns start) (sym next)

pub returns : goal.returns
returns g c =
    let circuit = c.args.c.now in
    let long = order_long circuit.nets circuit.order c.known.ensures.by_name in
    let all : take c.loop-place.place circuit.order ≡ circuit.order = take_all c.loop-place.place circuit.order
    (omega (arith, long, c.loop-place-test.false, c.net_count-place-end.ensures)) in
    c.loop-place.invariant ∙ ap (λ (ns : List ℕ). draw_each (λ (n : ℕ). draw_offset circuit.header (slice_get circuit.nets n)) ns (g.R.Rng.stream c.args.rng.now)) all
