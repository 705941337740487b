use Rattle.std.proofs.Common.{◌≡◌, ◌∙◌, ℕ, arith, sym, subst}
use Rattle.std.proofs.lemmas.Result.{IfOk-weaker}
use Rattle.trace_sim.specs.Choice.{Bits, choices_of}
use Rattle.trace_sim.specs.Simulated.{IsSimulated}
use Rattle.trace_sim.specs.Making.{made, begun}
use Rattle.trace_sim.proofs.Made.{simulated}
use Rattle.trace_sim.proofs.making.simulate.Goals as goal

pub returns : goal.returns
returns c =
    let circuit = c.args.c.now in
    let choice = c.args.choice.now in
    let order = c.in_ok-order.order.items in
    let all : c.loop-t.t ≡ c.args.ticks = omega arith in
    let is : c.loop-t.bits.items ≡ made circuit c.args.ticks (choices_of choice) order c.args.ticks (begun circuit choice) =
    subst (λ (n : ℕ). c.loop-t.bits.items ≡ made circuit c.args.ticks (choices_of choice) order n (begun circuit choice)) all c.loop-t.invariant.made in
    let right = simulated circuit choice c.args.ticks c.known.ensures c.requires order c.in_ok-order.ensures in
    IfOk-weaker c.traces.result (λ traces. traces ≡ c.deref-2.result.now) (λ traces. IsSimulated circuit choice c.args.ticks traces)
    (λ traces same. subst (λ (bits : Bits). IsSimulated circuit choice c.args.ticks bits) (sym (same ∙ c.deref-2.ensures.value ∙ is)) right) c.traces.ensures
