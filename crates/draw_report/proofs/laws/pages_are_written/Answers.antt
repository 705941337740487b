use Rattle.draw_report.proofs.Pages.{pages_are_written}
use Rattle.draw_report.proofs.laws.pages_are_written.Goals as goal

pub returns : goal.returns
returns c = pages_are_written
