use Rattle.std.proofs.Common.{◌∙◌, arith}
use Rattle.drawing_notes.proofs.Gating.{timing_start, timing_more, timing_end}
use Rattle.drawing_notes.proofs.clocks.add_timing.Goals as goal

pub loop-number-init : goal.loop-number-init
loop-number-init c = timing_start c.args.c.now c.args.found.now

pub add_timing_at-requires : goal.add_timing_at-requires
add_timing_at-requires c = c.loop-number.invariant.each_net ∙ c.requires.each_net

pub loop-number-preserved : goal.loop-number-preserved
loop-number-preserved c =
    timing_more c.args.c.now c.loop-number.number c.args.gated.now c.args.found.now c.loop-number.found c.add_timing_at.new.found c.requires.gated.1
    c.loop-number.invariant c.in_ok-add_timing_at.ensures

pub returns : goal.returns
returns c =
    timing_end c.args.c.now c.loop-number.number c.args.found.now c.loop-number.found
    (omega (arith, c.instance_count-number-end.ensures, c.loop-number-test.false)) c.loop-number.invariant
