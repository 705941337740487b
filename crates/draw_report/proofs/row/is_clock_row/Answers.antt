use Rattle.draw_report.proofs.Places.{net_inside}
use Rattle.draw_report.proofs.row.is_clock_row.Goals as goal

pub is_clock-requires-clause-inside : goal.is_clock-requires-clause-inside
is_clock-requires-clause-inside c =
    net_inside c.args.c.now c.args.row.from c.net_at.result c.known.ensures c.requires.inside
    c.net_at.ensures
