use Rattle.std.proofs.Common.{append-nil, sym}
use Rattle.drawing_omissions.proofs.Spotting.{macros_more}
use Rattle.drawing_omissions.proofs.fors.add_macros.Goals as goal

pub loop-definition-init : goal.loop-definition-init
loop-definition-init c = sym (append-nil c.args.found.now)

pub loop-definition-preserved : goal.loop-definition-preserved
loop-definition-preserved c =
    macros_more c.args.macros.now c.loop-definition.definition-index c.definition-item.result c.args.found.now c.loop-definition.found c.add_all.new.found
    c.loop-definition-test.true c.definition-item.is c.loop-definition.invariant (rw c.as_slice.ensures.value at c.in_ok-add_all.ensures)
