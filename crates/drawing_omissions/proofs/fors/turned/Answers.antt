use Rattle.drawing_omissions.specs.Fors.{is_turned}
use Rattle.drawing_omissions.proofs.Spotting.{where_more}
use Rattle.drawing_omissions.proofs.fors.turned.Goals as goal

pub loop-finding-preserved : goal.loop-finding-preserved
loop-finding-preserved c =
    where_more is_turned c.args.found.now c.loop-finding.finding-index c.finding-item.result c.loop-finding.spots.keys c.add_turned.new.spots.keys
    c.loop-finding-test.true c.finding-item.is c.loop-finding.invariant c.in_ok-add_turned.ensures
