use Rattle.std.proofs.Common.{◌∙◌, length, take, ap, subst, sym}
use Rattle.drawing_omissions.specs.Same.{AreWithin}
use Rattle.drawing_omissions.specs.CaseBits.{values_of}
use Rattle.drawing_omissions.proofs.Valuing.{are_within, pushed_more}
use Rattle.drawing_omissions.proofs.case_bits.case_values.Goals as goal

pub loop-bits-preserved : goal.loop-bits-preserved
loop-bits-preserved c =
    pushed_more (values_of c.args.c.now) c.args.cases.now c.loop-bits.bits-index c.bits-item.result c.in_ok-values_of.field-0 c.loop-bits.values c.push.new.self
    c.loop-bits-test.true c.bits-item.is c.loop-bits.invariant (c.in_ok-values_of.ensures ∙ ap (values_of c.args.c.now) c.as_slice.ensures) c.in_ok-push.ensures.ok

pub returns-clause-within : goal.returns-clause-within
returns-clause-within c =
    subst (AreWithin (length c.args.c.now.nets)) (sym c.loop-bits.invariant) (are_within c.args.c.now (take c.loop-bits.bits-index c.args.cases.now))
