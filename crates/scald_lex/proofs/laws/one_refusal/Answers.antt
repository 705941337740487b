use Rattle.scald_lex.proofs.Unique.{one_refusal as law}
use Rattle.scald_lex.proofs.laws.one_refusal.Goals as goal

pub returns : goal.returns
returns c = law
