use Rattle.scald_tool.proofs.Promised.{reports_are_promised}
use Rattle.scald_tool.proofs.laws.reports_are_promised.Goals as goal

pub returns : goal.returns
returns c = reports_are_promised
