use Rattle.drawing_grammar.proofs.Different.{well_formed}
use Rattle.drawing_grammar.proofs.laws.drawn_is_well_formed.Goals as goal

pub returns : goal.returns
returns c = well_formed
