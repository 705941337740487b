use Rattle.scald_lex.proofs.Unique.{one_list as law}
use Rattle.scald_lex.proofs.laws.one_list.Goals as goal

pub returns : goal.returns
returns c = law
