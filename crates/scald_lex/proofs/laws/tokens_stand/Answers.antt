use Rattle.scald_lex.proofs.Stands.{tokens_stand as law}
use Rattle.scald_lex.proofs.laws.tokens_stand.Goals as goal

pub returns : goal.returns
returns c = law
