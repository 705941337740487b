use Rattle.margin_report.proofs.Greatest.{margins_are_true}
use Rattle.margin_report.proofs.laws.margins_are_true.Goals as goal

pub returns : goal.returns
returns c = margins_are_true
