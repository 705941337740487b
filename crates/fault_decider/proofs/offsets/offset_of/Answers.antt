use Rattle.std.proofs.Common.{◌≡◌, ◌∙◌, ◌+◌, ◌<◌, ◌≤◌, arith, refl, sym}
use Rattle.fault_decider.specs.Choices.{is_shifted}
use Rattle.fault_decider.proofs.Shifting.{first_here, first_later, first_none, first_whole}
use Rattle.fault_decider.proofs.offsets.offset_of.Goals as goal

pub loop-by-init : goal.loop-by-init
loop-by-init c =
    first_whole (is_shifted c.args.h.now c.args.clock.now c.args.skew.0 c.args.ticks c.args.row.now)
    (c.args.skew.0 + c.args.skew.1 + 1)

pub returns-then-is_shifted : goal.returns-then-is_shifted
returns-then-is_shifted c =
    let inside = c.loop-by-test.true in
    sym
    (first_here (is_shifted c.args.h.now c.args.clock.now c.args.skew.0 c.args.ticks c.args.row.now) c.loop-by.by
    (c.args.skew.0 + c.args.skew.1 + 1) (omega (arith, inside)) (sym c.if-is_shifted.ensures))
    ∙ c.loop-by.invariant

pub loop-by-preserved : goal.loop-by-preserved
loop-by-preserved c =
    let inside = c.loop-by-test.true in
    sym
    (first_later (is_shifted c.args.h.now c.args.clock.now c.args.skew.0 c.args.ticks c.args.row.now) c.loop-by.by
    (c.args.skew.0 + c.args.skew.1 + 1) (omega (arith, inside)) (sym c.if-is_shifted.ensures))
    ∙ c.loop-by.invariant

pub returns : goal.returns
returns c =
    let past = c.loop-by-test.false in
    sym
    (first_none (is_shifted c.args.h.now c.args.clock.now c.args.skew.0 c.args.ticks c.args.row.now) c.loop-by.by
    (c.args.skew.0 + c.args.skew.1 + 1) (omega (arith, past)))
    ∙ c.loop-by.invariant
