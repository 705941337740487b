use Rattle.drawing_grammar.proofs.Unique.{one_wrong}
use Rattle.drawing_grammar.proofs.laws.one_refusal.Goals as goal

pub returns : goal.returns
returns c = one_wrong
