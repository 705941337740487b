use Rattle.slack_rows.proofs.Pulses.{widths_break_with_faults as law}
use Rattle.slack_rows.proofs.laws.widths_break_with_faults.Goals as goal

pub returns : goal.returns
returns c = law
