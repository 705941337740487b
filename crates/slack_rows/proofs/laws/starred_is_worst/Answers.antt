use Rattle.slack_rows.proofs.Worst.{starred_is_worst as law}
use Rattle.slack_rows.proofs.laws.starred_is_worst.Goals as goal

pub returns : goal.returns
returns c = law
