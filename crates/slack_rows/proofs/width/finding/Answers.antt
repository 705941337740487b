use Rattle.std.proofs.Common.{ap, arith}
use Rattle.std.proofs.lemmas.Int.{ints}
use Rattle.slack_rows.specs.declared.slack.Slack.TheVariants.{Ticks}
use Rattle.slack_rows.proofs.width.finding.Goals as goal

pub returns-clause-slack : goal.returns-clause-slack
returns-clause-slack c =
    let limit = c.from.ensures in
    let first = c.requires.first in
    let last = c.requires.last in
    ap Ticks (omega (arith, ints, limit, first, last))
