use Rattle.std.proofs.Common.{subst}
use Rattle.scald_base.specs.Time.{IsHeader}
use Rattle.slack_report.proofs.collected.known_header.Goals as goal

pub returns : goal.returns
returns c = subst IsHeader c.header.ensures c.known.ensures
