use Rattle.drawing_grammar.proofs.Decided.{drawn_or_refused}
use Rattle.drawing_grammar.proofs.laws.drawn_or_refused.Goals as goal

pub returns : goal.returns
returns c = drawn_or_refused
