use Rattle.drawing_grammar.proofs.Reordered.{law}
use Rattle.drawing_grammar.proofs.laws.reordered_draws.Goals as goal

pub returns : goal.returns
returns c = law
