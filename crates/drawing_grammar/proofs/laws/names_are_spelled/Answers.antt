use Rattle.drawing_grammar.proofs.SpelledNames.{names_are_spelled}
use Rattle.drawing_grammar.proofs.laws.names_are_spelled.Goals as goal

pub returns : goal.returns
returns c = names_are_spelled
