use Rattle.macro_expander.proofs.Whole.{finished}
use Rattle.macro_expander.proofs.expansion.Expansion.finish.Goals as goal

pub returns : goal.returns
returns c d is = finished d c.args.self is c.known.ensures c.finish.result c.finish.ensures
