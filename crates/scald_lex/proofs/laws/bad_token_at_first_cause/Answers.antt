use Rattle.scald_lex.proofs.Apart.{bad_token_at_first_cause}
use Rattle.scald_lex.proofs.laws.bad_token_at_first_cause.Goals as goal

pub returns : goal.returns
returns c = bad_token_at_first_cause
