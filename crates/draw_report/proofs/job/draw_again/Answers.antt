use Rattle.std.proofs.Common.{◌∙◌}
use Rattle.draw_report.proofs.job.draw_again.Goals as goal

pub draw_page_again-requires-clause-circuit : goal.draw_page_again-requires-clause-circuit
draw_page_again-requires-clause-circuit g c = c.new-sheets.ensures ∙ c.sheet_of-sheet.ensures
