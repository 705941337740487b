use Rattle.std.proofs.Common.{arith}
use Rattle.draw_report.proofs.Places.{net_inside}
use Rattle.draw_report.proofs.case.waves_of_rows.Goals as goal

pub at-requires : goal.at-requires
at-requires g c =
    let inside = net_inside c.args.c.now _ c.net_at.result c.known.ensures
    (c.requires.inside c.loop-row.row-index _ (omega arith)) c.net_at.ensures in
    let all = c.requires.fit.each_net in
    omega (arith, inside, all)
