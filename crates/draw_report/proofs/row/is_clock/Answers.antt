use Rattle.draw_report.proofs.Clocks.{clock_at}
use Rattle.draw_report.proofs.row.is_clock.Goals as goal

pub returns-in-Some : goal.returns-in-Some
returns-in-Some c =
    let here = clock_at c.args.c.now c.args.clocks.now c.args.net c.requires.marked
    c.requires.inside in
    cc (here, c.in-Some.ensures)

pub returns-in-None : goal.returns-in-None
returns-in-None c =
    let here = clock_at c.args.c.now c.args.clocks.now c.args.net c.requires.marked
    c.requires.inside in
    absurd (cc (here, c.in-None.ensures))
