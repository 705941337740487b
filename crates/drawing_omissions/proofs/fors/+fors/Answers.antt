use Rattle.std.proofs.Common.{arith}
use Rattle.drawing_omissions.proofs.SpreadSizes.{one_smaller}
use Rattle.drawing_omissions.proofs.fors.+fors.Goals as goal

pub add_all-add_statement-requires : goal.add_all-add_statement-requires
add_all-add_statement-requires t c = (
  let less = one_smaller c.args.statements.now c.loop-statement.statement-index c.statement-item.result c.loop-statement-test.true c.statement-item.is in
      omega (arith, c.decreases, less),
  tt,
)
