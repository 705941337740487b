use Rattle.drawing_grammar.proofs.Shallow.{shallow_where_drawn}
use Rattle.drawing_grammar.proofs.text_laws.shallow_where_drawn.Goals as goal

pub returns : goal.returns
returns c = shallow_where_drawn
