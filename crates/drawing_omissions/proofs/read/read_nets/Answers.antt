use Rattle.std.proofs.Common.{length}
use Rattle.drawing_omissions.proofs.Reading.{read_more}
use Rattle.drawing_omissions.proofs.read.read_nets.Goals as goal

pub loop-number-preserved : goal.loop-number-preserved
loop-number-preserved c =
    read_more c.args.c.now.instances (length c.args.c.now.nets) c.loop-number.number c.loop-number.read c.mark_instance.new.read c.loop-number.invariant
    c.mark_instance.ensures
