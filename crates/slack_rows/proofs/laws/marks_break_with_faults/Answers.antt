use Rattle.slack_rows.proofs.Gates.{marks_break_with_faults as law}
use Rattle.slack_rows.proofs.laws.marks_break_with_faults.Goals as goal

pub returns : goal.returns
returns c = law
