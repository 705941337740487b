use Rattle.std.proofs.Common.{arith, ◌≡◌, ◌∙◌, Bool, List, ℕ, ap, subst, sym}
use Rattle.std.specs.List.{range_with_len}
use Rattle.vector_names.proofs.Ranges.{range_more}
use Rattle.trace_sim.specs.Draw.{draw_bit, draw_each}
use Rattle.trace_sim.proofs.Each.{each_more}
use Rattle.trace_sim.proofs.free.draw_bits.Goals as goal

pub loop-preserved : goal.loop-preserved
loop-preserved g c =
    let start = g.R.Rng.stream c.args.rng.now in
    let after = g.R.Rng.stream c.draw_bit.new.rng in
    let draw = λ (t : ℕ). draw_bit in
    ap (λ (bs : List Bool). (bs, after)) c.in_ok-push.ensures.ok
    ∙ each_more draw (range_with_len 0 c.loop.counter) c.loop.counter start (g.R.Rng.stream c.loop.rng) after c.loop.bits c.draw_bit.result
    c.loop.invariant c.draw_bit.ensures
    ∙ ap (λ (ns : List ℕ). draw_each draw ns start) (sym (range_more 0 c.loop.counter c.loop.counter (omega arith)))

pub returns : goal.returns
returns g c =
    let all : c.loop.counter ≡ c.args.ticks = omega arith in
    subst (λ (n : ℕ). (c.loop.bits, g.R.Rng.stream c.loop.rng) ≡ draw_each (λ (t : ℕ). draw_bit) (range_with_len 0 n) (g.R.Rng.stream c.args.rng.now)) all c.loop.invariant
