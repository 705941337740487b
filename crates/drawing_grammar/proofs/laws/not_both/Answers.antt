use Rattle.drawing_grammar.proofs.Unique.{draws_is_not_wrong}
use Rattle.drawing_grammar.proofs.laws.not_both.Goals as goal

pub returns : goal.returns
returns c = draws_is_not_wrong
