use Rattle.drawing_grammar.proofs.Unique.{one_drawing}
use Rattle.drawing_grammar.proofs.laws.one_drawing.Goals as goal

pub returns : goal.returns
returns c = one_drawing
