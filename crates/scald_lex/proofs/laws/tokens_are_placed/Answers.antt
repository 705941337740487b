use Rattle.scald_lex.proofs.Placed.{tokens_are_placed}
use Rattle.scald_lex.proofs.laws.tokens_are_placed.Goals as goal

pub returns : goal.returns
returns c = tokens_are_placed
