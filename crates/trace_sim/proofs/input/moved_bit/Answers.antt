use Rattle.std.proofs.Common.{arith, ◌≤◌, ◌∙◌, ◌&&◌, ◌||◌, Bool, true, false, not, ap, sym}
use Rattle.trace_sim.specs.Input.{bits_in, is_last}
use Rattle.trace_sim.proofs.Bits.{near_fall, near_none, near_rise}
use Rattle.trace_sim.proofs.input.moved_bit.Goals as goal

pub returns-then-is_near : goal.returns-then-is_near
returns-then-is_near c =
    let some : 1 ≤ c.args.t = omega (arith, c.if-t-eq0.false) in
    near_rise c.args.clock.now c.args.h.now c.args.skew (bits_in c.args.free.now) c.args.t c.slot_back-slot.result c.args.before c.rising.result some
    c.slot_back-slot.ensures.is (c.requires.before some) (sym c.is_near.ensures ∙ c.if-is_near.true)
    (c.rising.ensures ∙ ap (λ (b : Bool). c.args.before || (b || c.bit_at.result)) c.is_last.ensures
    ∙ ap (λ (b : Bool). c.args.before || (is_last c.args.clock.now c.args.h.now c.args.skew true c.slot_back-slot.result || b)) c.bit_at.ensures)

pub returns-then-is_near-2 : goal.returns-then-is_near-2
returns-then-is_near-2 c =
    let some : 1 ≤ c.args.t = omega (arith, c.if-t-eq0.false) in
    near_fall c.args.clock.now c.args.h.now c.args.skew (bits_in c.args.free.now) c.args.t c.slot_back-slot.result c.args.before c.falling.result some
    c.slot_back-slot.ensures.is (c.requires.before some) (sym c.is_near.ensures ∙ c.if-is_near.false)
    (sym c.is_near-else-is_near.ensures ∙ c.if-is_near-2.true)
    (c.falling.ensures ∙ ap (λ (b : Bool). c.args.before && (not b && c.bit_at-then-is_near-2.result)) c.is_last-then-is_near-2.ensures
    ∙ ap (λ (b : Bool). c.args.before && (not (is_last c.args.clock.now c.args.h.now c.args.skew false c.slot_back-slot.result) && b)) c.bit_at-then-is_near-2.ensures)

pub returns-else-is_near-2 : goal.returns-else-is_near-2
returns-else-is_near-2 c =
    let some : 1 ≤ c.args.t = omega (arith, c.if-t-eq0.false) in
    near_none c.args.clock.now c.args.h.now c.args.skew (bits_in c.args.free.now) c.args.t c.slot_back-slot.result c.ideal.result some
    c.slot_back-slot.ensures.is (sym c.is_near.ensures ∙ c.if-is_near.false) (sym c.is_near-else-is_near.ensures ∙ c.if-is_near-2.false) c.ideal.ensures
