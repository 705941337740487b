use Rattle.drawing_grammar.proofs.TextLaws.{one_refusal}
use Rattle.drawing_grammar.proofs.text_laws.one_refusal.Goals as goal

pub returns : goal.returns
returns c = one_refusal
