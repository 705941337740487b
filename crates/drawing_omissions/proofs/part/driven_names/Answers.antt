use Rattle.drawing_omissions.proofs.Driving.{driven_more}
use Rattle.drawing_omissions.proofs.part.driven_names.Goals as goal

pub loop-number-preserved : goal.loop-number-preserved
loop-number-preserved c =
    driven_more c.args.c.now.nets c.loop-number.number c.loop-number.names.keys c.add_name.new.names.keys c.loop-number.invariant c.in_ok-add_name.ensures
