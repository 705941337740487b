use Rattle.drawing_omissions.proofs.Valuing.{values_more}
use Rattle.drawing_omissions.proofs.case_bits.values_of.Goals as goal

pub loop-bit-preserved : goal.loop-bit-preserved
loop-bit-preserved c =
    values_more c.args.c.now c.args.bits.now c.loop-bit.bit-index c.bit-item.result c.value_of.result c.loop-bit.values c.add_value.new.values
    c.loop-bit-test.true c.bit-item.is c.loop-bit.invariant c.value_of.ensures c.in_ok-add_value.ensures
