use Rattle.std.proofs.Common.{◌≡◌, ◌∙◌, ◌<◌, ◌≤◌, arith, refl, sym}
use Rattle.fault_decider.specs.Choices.{is_shifted_at}
use Rattle.fault_decider.proofs.Shifting.{all_goes, all_past, all_stops, all_whole}
use Rattle.fault_decider.proofs.offsets.is_shifted.Goals as goal

pub loop-t-init : goal.loop-t-init
loop-t-init c =
    all_whole (is_shifted_at c.args.h.now c.args.clock.now c.args.early c.args.row.now c.args.by) c.args.ticks

pub returns-then-not-is_shifted_at : goal.returns-then-not-is_shifted_at
returns-then-not-is_shifted_at c =
    let inside = c.loop-t-test.true in
    sym
    (all_stops (is_shifted_at c.args.h.now c.args.clock.now c.args.early c.args.row.now c.args.by) c.loop-t.t
    c.args.ticks (omega (arith, inside)) (sym c.if-not-is_shifted_at.ensures))
    ∙ c.loop-t.invariant

pub loop-t-preserved : goal.loop-t-preserved
loop-t-preserved c =
    let inside = c.loop-t-test.true in
    sym
    (all_goes (is_shifted_at c.args.h.now c.args.clock.now c.args.early c.args.row.now c.args.by) c.loop-t.t
    c.args.ticks (omega (arith, inside)) (sym c.if-not-is_shifted_at.ensures))
    ∙ c.loop-t.invariant

pub returns : goal.returns
returns c =
    let past = c.loop-t-test.false in
    sym
    (all_past (is_shifted_at c.args.h.now c.args.clock.now c.args.early c.args.row.now c.args.by) c.loop-t.t
    c.args.ticks (omega (arith, past)))
    ∙ c.loop-t.invariant
