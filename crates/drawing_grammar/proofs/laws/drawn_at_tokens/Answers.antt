use Rattle.drawing_grammar.proofs.PlacedDrawings.{drawn_at_tokens}
use Rattle.drawing_grammar.proofs.laws.drawn_at_tokens.Goals as goal

pub returns : goal.returns
returns c = drawn_at_tokens
