use Rattle.scald_lex.proofs.Apart.{tokens_are_apart}
use Rattle.scald_lex.proofs.laws.tokens_are_apart.Goals as goal

pub returns : goal.returns
returns c = tokens_are_apart
