use Rattle.draw_report.proofs.Drawing.{page_drawn}
use Rattle.draw_report.proofs.sheets.drawn_page.Goals as goal

pub returns : goal.returns
returns c =
    let page = c.args.page.now in
    page_drawn page.title.now page.above.now page.rows.now page.below.now page.limits.now
    page.cases.now _ c.requires.limits c.requires.cases c.in_ok-page_of.ensures
