use Rattle.assertion_syntax.proofs.Names.{name_takes, none_again}
use Rattle.assertion_syntax.proofs.reader.read_name.Goals as goal

pub returns-in-Some-clause-found : goal.returns-in-Some-clause-found
returns-in-Some-clause-found c = name_takes c.args.text.now c.in-Some.read (rw c.in-Some.is at c.in_ok-read.ensures)

pub returns-in-None-clause-none : goal.returns-in-None-clause-none
returns-in-None-clause-none c = λ _. none_again c.args.text.now (rw c.in-None.is at c.in_ok-read.ensures)
