use Rattle.drawing_omissions.proofs.Naming.{names_more}
use Rattle.drawing_omissions.proofs.spread_notes.with_other_bits.Goals as goal

pub loop-number-preserved : goal.loop-number-preserved
loop-number-preserved c =
    names_more c.args.c.now.nets c.loop-number.number c.loop-number.names.keys c.add_name.new.names.keys c.loop-number.invariant c.in_ok-add_name.ensures
