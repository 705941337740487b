use Rattle.drawing_grammar.proofs.TextLaws.{drawn_or_refused}
use Rattle.drawing_grammar.proofs.text_laws.drawn_or_refused.Goals as goal

pub returns : goal.returns
returns c = drawn_or_refused
