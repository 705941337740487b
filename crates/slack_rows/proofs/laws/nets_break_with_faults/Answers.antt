use Rattle.slack_rows.proofs.Nets.{nets_break_with_faults as law}
use Rattle.slack_rows.proofs.laws.nets_break_with_faults.Goals as goal

pub returns : goal.returns
returns c = law
