use Rattle.slack_rows.proofs.Checkers.{edges_break_with_faults as law}
use Rattle.slack_rows.proofs.laws.edges_break_with_faults.Goals as goal

pub returns : goal.returns
returns c = law
