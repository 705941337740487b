use Rattle.std.proofs.Common.{sym, ◌∙◌}
use Rattle.drawing_reader.proofs.Answered.{none_left, some_left}
use Rattle.drawing_reader.proofs.cursor.Cursor.is_done.Goals as goal

pub returns-in-None-clause-yes : goal.returns-in-None-clause-yes
returns-in-None-clause-yes c = λ h. none_left c.args.self.now.text.now c.args.self.now.rest (sym c.peek.ensures ∙ c.in-None.is)

pub returns-in-Some-clause-no : goal.returns-in-Some-clause-no
returns-in-Some-clause-no c = λ h. some_left c.args.self.now.text.now c.args.self.now.rest _ (sym c.peek.ensures ∙ c.in-Some.is)
