use Rattle.drawing_grammar.proofs.TextLaws.{drawn_at_bytes}
use Rattle.drawing_grammar.proofs.text_laws.drawn_at_bytes.Goals as goal

pub returns : goal.returns
returns c = drawn_at_bytes
