use Rattle.drawing_grammar.proofs.TextLaws.{refused_at_bytes}
use Rattle.drawing_grammar.proofs.text_laws.refused_at_bytes.Goals as goal

pub returns : goal.returns
returns c = refused_at_bytes
