use Rattle.scald_lex.proofs.Unique.{not_both as law}
use Rattle.scald_lex.proofs.laws.not_both.Goals as goal

pub returns : goal.returns
returns c = law
