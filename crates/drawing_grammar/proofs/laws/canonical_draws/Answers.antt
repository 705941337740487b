use Rattle.drawing_grammar.proofs.Again.{law}
use Rattle.drawing_grammar.proofs.laws.canonical_draws.Goals as goal

pub returns : goal.returns
returns c = law
