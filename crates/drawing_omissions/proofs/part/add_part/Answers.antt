use Rattle.drawing_omissions.specs.Part.{part_at}
use Rattle.drawing_omissions.proofs.Adding.{adds_item}
use Rattle.drawing_omissions.proofs.part.add_part.Goals as goal

pub loop-net-preserved : goal.loop-net-preserved
loop-net-preserved c =
    adds_item (part_at c.args.c.now) c.args.loose.now c.loop-net.net-index c.args.notes.now c.loop-net.notes c.add_part_at.new.notes
    c.loop-net-test.true c.loop-net.invariant c.in_ok-add_part_at.ensures
