use Rattle.drawing_grammar.proofs.TextLaws.{one_drawing}
use Rattle.drawing_grammar.proofs.text_laws.one_drawing.Goals as goal

pub returns : goal.returns
returns c = one_drawing
