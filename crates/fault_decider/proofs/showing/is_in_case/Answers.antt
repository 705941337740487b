use Rattle.std.proofs.Common.{◌≡◌, ◌<◌, ℕ, All, arith, refl, subst, take}
use Rattle.std.proofs.lemmas.List.{take_all}
use Rattle.std.proofs.lemmas.List.Elements.{All-more}
use Rattle.flat_circuit.specs.declared.case.CaseValue.{CaseValue}
use Rattle.trace_sim.specs.Simulated.{bit_of}
use Rattle.fault_decider.proofs.showing.is_in_case.Goals as goal

pub loop-value-preserved : goal.loop-value-preserved
loop-value-preserved c =
    All-more (λ (v : CaseValue). (t : ℕ) → t < c.args.ticks → bit_of c.args.bits.now v.net t ≡ v.one)
    c.args.values.now c.loop-value.value-index _
    (let inside = c.loop-value-test.true in omega (arith, inside)) c.loop-value.invariant
    (c.if-not-keeps.ensures refl)

pub returns : goal.returns
returns c choices h =
    let whole = take_all c.loop-value.value-index c.args.values.now
    (let past = c.loop-value-test.false in omega (arith, past)) in
    subst
    (All (λ (v : CaseValue). (t : ℕ) → t < c.args.ticks → bit_of c.args.bits.now v.net t ≡ v.one))
    whole c.loop-value.invariant
