use Rattle.std.proofs.Common.{arith, ◌≡◌, ◌+◌, ◌∙◌, ℕ, true, false, ap, sym, subst}
use Rattle.scald_base.specs.Time.{period}
use Rattle.scald_base.specs.Clock.{back}
use Rattle.trace_sim.proofs.PinByPin.{next_one}
use Rattle.trace_sim.specs.Input.{is_edge}
use Rattle.trace_sim.proofs.Bits.{none_of, some_of}
use Rattle.trace_sim.proofs.input.is_near.Goals as goal

pub returns-then-is_edge : goal.returns-then-is_edge
returns-then-is_edge c =
    let test = λ (k : ℕ). is_edge c.args.clock.now c.args.h.now c.args.to (back (period c.args.h.now) (c.args.slot + c.args.skew.0) k) in
    let found : test c.loop-by.by ≡ true =
    sym (ap (λ (s : ℕ). is_edge c.args.clock.now c.args.h.now c.args.to s) c.slot_back.ensures.is) ∙ sym c.is_edge.ensures ∙ c.if-is_edge.true in
    sym (some_of test 0 (c.args.skew.0 + c.args.skew.1 + 1) c.loop-by.by (omega (arith, c.loop-by-test.true)) (subst (λ k. test k ≡ true) (omega arith) found))

pub loop-by-preserved : goal.loop-by-preserved
loop-by-preserved c =
    let test = λ (k : ℕ). is_edge c.args.clock.now c.args.h.now c.args.to (back (period c.args.h.now) (c.args.slot + c.args.skew.0) k) in
    let none : test c.loop-by.by ≡ false =
    sym (ap (λ (s : ℕ). is_edge c.args.clock.now c.args.h.now c.args.to s) c.slot_back.ensures.is) ∙ sym c.is_edge.ensures ∙ c.if-is_edge.false in
    next_one (λ k. test k ≡ false) c.loop-by.by c.loop-by.invariant none

pub returns : goal.returns
returns c =
    let test = λ (k : ℕ). is_edge c.args.clock.now c.args.h.now c.args.to (back (period c.args.h.now) (c.args.slot + c.args.skew.0) k) in
    sym (none_of test 0 (c.args.skew.0 + c.args.skew.1 + 1) (λ k below. subst (λ m. test m ≡ false) (omega arith) (c.loop-by.invariant k (omega (arith, below, c.loop-by-test.false)))))
