use Rattle.drawing_omissions.specs.Fors.{is_reached}
use Rattle.drawing_omissions.proofs.Spotting.{where_more}
use Rattle.drawing_omissions.proofs.fors.reached.Goals as goal

pub loop-finding-preserved : goal.loop-finding-preserved
loop-finding-preserved c =
    where_more is_reached c.args.found.now c.loop-finding.finding-index c.finding-item.result c.loop-finding.spots.keys c.add_reached.new.spots.keys
    c.loop-finding-test.true c.finding-item.is c.loop-finding.invariant c.in_ok-add_reached.ensures
