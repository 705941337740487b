use Rattle.margin_report.proofs.Tried.{tried_as_written}
use Rattle.margin_report.proofs.laws.values_are_tried_as_written.Goals as goal

pub returns : goal.returns
returns c = tried_as_written
