use Rattle.margin_report.proofs.Monotone.{fitting_is_monotone}
use Rattle.margin_report.proofs.laws.fitting_is_monotone.Goals as goal

pub returns : goal.returns
returns c = fitting_is_monotone
