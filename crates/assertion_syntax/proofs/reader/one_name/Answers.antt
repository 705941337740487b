use Rattle.assertion_syntax.proofs.Names.{names_one}
use Rattle.assertion_syntax.proofs.reader.one_name.Goals as goal

pub returns : goal.returns
returns c = names_one
