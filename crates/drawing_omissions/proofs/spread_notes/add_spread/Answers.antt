use Rattle.drawing_omissions.specs.Spread.{spread_at}
use Rattle.drawing_omissions.proofs.Naming.{adds_next}
use Rattle.drawing_omissions.proofs.spread_notes.add_spread.Goals as goal

pub loop-finding-preserved : goal.loop-finding-preserved
loop-finding-preserved c =
    adds_next (spread_at c.args.c.now) c.args.found.now c.loop-finding.finding-index c.finding-item.result c.args.notes.now c.loop-finding.notes
    c.add_spread_at.new.notes c.loop-finding-test.true c.finding-item.is c.loop-finding.invariant c.in_ok-add_spread_at.ensures
