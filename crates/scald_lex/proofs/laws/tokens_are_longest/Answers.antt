use Rattle.scald_lex.proofs.Longest.{longest as law}
use Rattle.scald_lex.proofs.laws.tokens_are_longest.Goals as goal

pub returns : goal.returns
returns c = law
