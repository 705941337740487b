use Rattle.drawing_grammar.proofs.PlacedDrawings.{wrong_at_tokens}
use Rattle.drawing_grammar.proofs.laws.wrong_at_tokens.Goals as goal

pub returns : goal.returns
returns c = wrong_at_tokens
