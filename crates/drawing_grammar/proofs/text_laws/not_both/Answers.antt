use Rattle.drawing_grammar.proofs.TextLaws.{not_both}
use Rattle.drawing_grammar.proofs.text_laws.not_both.Goals as goal

pub returns : goal.returns
returns c = not_both
