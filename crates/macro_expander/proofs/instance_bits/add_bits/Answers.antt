use Rattle.std.proofs.lemmas.Result.{err_from_is_err_and}
use Rattle.macro_expander.proofs.Adding.{bits_none, bits_more, bits_failed, bits_all, bit_fits}
use Rattle.macro_expander.proofs.instance_bits.add_bits.Goals as goal

pub loop-k-init : goal.loop-k-init
loop-k-init c =
    let w = c.args.wiring.now in
    bits_none c.args.expansion.now w.path.now w.statement.now w.kind w.plan w.ins.now w.outs.now c.args.width

pub returns-in_err-add_bit : goal.returns-in_err-add_bit
returns-in_err-add_bit c =
    let w = c.args.wiring.now in
    let p = err_from_is_err_and c.from_residual.result c.from_residual.ensures.1 in
    rw (p.1, p.2) (bits_failed c.args.expansion.now w.path.now w.statement.now w.kind w.plan w.ins.now w.outs.now
    c.args.width c.loop-k.k c.loop-k.expansion c.loop-k.invariant c.in_err-add_bit.field-0.0 c.loop-k-test.true c.in_err-add_bit.ensures.done)

pub loop-k-preserved : goal.loop-k-preserved
loop-k-preserved c =
    let w = c.args.wiring.now in
    bits_more c.args.expansion.now w.path.now w.statement.now w.kind w.plan w.ins.now w.outs.now c.args.width c.loop-k.k
    c.loop-k.expansion c.loop-k.invariant c.add_bit.new.expansion c.loop-k-test.true c.in_ok-add_bit.ensures.done c.in_ok-add_bit.ensures.same

pub returns : goal.returns
returns c =
    let w = c.args.wiring.now in
    bits_all c.args.expansion.now w.path.now w.statement.now w.kind w.plan w.ins.now w.outs.now c.args.width c.loop-k.k c.loop-k.expansion c.loop-k.invariant c.loop-k-test.false

pub add_bit-requires : goal.add_bit-requires
add_bit-requires c =
    let w = c.args.wiring.now in
    bit_fits c.args.expansion.now w.path.now w.statement.now w.kind w.plan w.ins.now w.outs.now
    c.args.width c.loop-k.k c.loop-k.expansion c.loop-k.invariant (c.requires.fits c.loop-k.k c.loop-k-test.true)
