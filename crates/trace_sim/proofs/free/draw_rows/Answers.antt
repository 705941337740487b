use Rattle.std.proofs.Common.{arith, ◌≡◌, ◌∙◌, Bool, List, ℕ, ap, get_or, sym, take}
use Rattle.std.proofs.lemmas.List.{take_all, take_more}
use Rattle.flat_circuit.proofs.Numbered.{order_long}
use Rattle.trace_sim.specs.Draw.{draw_bits, draw_each}
use Rattle.trace_sim.proofs.Each.{each_more}
use Rattle.trace_sim.proofs.free.draw_rows.Goals as goal

pub loop-preserved : goal.loop-preserved
loop-preserved g c =
    let circuit = c.args.c.now in
    let place = c.loop.counter in
    let start = g.R.Rng.stream c.args.rng.now in
    let after = g.R.Rng.stream c.draw_bits.new.rng in
    let draw = λ (n : ℕ). draw_bits c.args.ticks in
    let long = order_long circuit.nets circuit.order c.known.ensures.by_name in
    let next = take_more circuit.order place 0 (omega (arith, long, c.loop-test.true, c.net_count-end.ensures)) in
    ap (λ (rows : List (List Bool)). (rows, after)) c.in_ok-push.ensures.ok
    ∙ each_more draw (take place circuit.order) (get_or circuit.order place 0) start (g.R.Rng.stream c.loop.rng) after c.loop.rows c.in_ok-draw_bits.field-0
    c.loop.invariant c.in_ok-draw_bits.ensures
    ∙ ap (λ (ns : List ℕ). draw_each draw ns start) (sym next)

pub returns : goal.returns
returns g c =
    let circuit = c.args.c.now in
    let long = order_long circuit.nets circuit.order c.known.ensures.by_name in
    let all : take c.loop.counter circuit.order ≡ circuit.order = take_all c.loop.counter circuit.order (omega (arith, long, c.loop-test.false, c.net_count-end.ensures)) in
    c.loop.invariant ∙ ap (λ (ns : List ℕ). draw_each (λ (n : ℕ). draw_bits c.args.ticks) ns (g.R.Rng.stream c.args.rng.now)) all
