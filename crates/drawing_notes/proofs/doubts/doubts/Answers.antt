use Rattle.std.proofs.Common.{arith}
use Rattle.drawing_notes.specs.Common.{skew_at}
use Rattle.drawing_notes.proofs.Doubting.{doubts_all, doubts_more}
use Rattle.drawing_notes.proofs.doubts.doubts.Goals as goal

pub loop-number-preserved : goal.loop-number-preserved
loop-number-preserved c =
    doubts_more c.args.c.now (skew_at c.args.skews.now) c.loop-number.number c.loop-number.doubts.items c.add_doubt.new.doubts.items
    c.in_ok-add_doubt.ensures c.loop-number.invariant

pub returns : goal.returns
returns c =
    doubts_all c.args.c.now (skew_at c.args.skews.now) c.loop-number.number c.loop-number.doubts.items c.sort_unstable_by_key.new.self.items
    (omega (arith, c.loop-number-test.false, c.loop-number.auto.number-end, c.instance_count-number-end.ensures))
    c.sort_unstable_by_key.ensures.permutation c.loop-number.invariant
