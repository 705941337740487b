use Rattle.slack_rows.proofs.Watched.{broken_where_touched as law}
use Rattle.slack_rows.proofs.laws.broken_where_touched.Goals as goal

pub returns : goal.returns
returns c = law
