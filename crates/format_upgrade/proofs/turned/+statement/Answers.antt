use Rattle.std.proofs.Common.{arith}
use Rattle.format_upgrade.proofs.Ordered.{statements_copied}
use Rattle.format_upgrade.proofs.turned.+statement.Goals as goal

pub statements-returns : goal.statements-returns
statements-returns t c =
    statements_copied c.args.order c.body.copies.items c.args.body.now c.body.one-index (omega (arith, c.body-test.false)) c.body.invariant
