use Rattle.scald_lex.proofs.Whole.{tokens_or_refusal as law}
use Rattle.scald_lex.proofs.laws.tokens_or_refusal.Goals as goal

pub returns : goal.returns
returns c = law
