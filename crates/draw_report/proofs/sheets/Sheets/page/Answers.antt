use Rattle.std.specs.List.{All}
use Rattle.std.proofs.Common.{subst, sym}
use Rattle.draw_report.specs.Drawn.{IsPicture}
use Rattle.draw_report.proofs.sheets.Sheets.page.Goals as goal

pub drawn_page-requires-clause-limits : goal.drawn_page-requires-clause-limits
drawn_page-requires-clause-limits c =
    subst (All IsPicture) (sym c.as_slice-2.ensures) c.requires.limits

pub drawn_page-requires-clause-cases : goal.drawn_page-requires-clause-cases
drawn_page-requires-clause-cases c =
    subst (All IsPicture) (sym c.as_slice-3.ensures) c.requires.cases
