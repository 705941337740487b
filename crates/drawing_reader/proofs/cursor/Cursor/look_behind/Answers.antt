use Rattle.std.proofs.Common.{sym, ap, ◌∙◌}
use Rattle.drawing_grammar.specs.Front.{first_terminal}
use Rattle.drawing_reader.proofs.Behind.{no_second, second_there}
use Rattle.drawing_reader.proofs.cursor.Cursor.look_behind.Goals as goal

pub returns-in-None : goal.returns-in-None
returns-in-None c =
    no_second c.args.self.now.text.now c.args.self.now.rest (sym c.in-None.is ∙ c.second.ensures)

pub returns-in-Some : goal.returns-in-Some
returns-in-Some c =
    let there = second_there c.args.self.now.text.now c.args.self.now.rest c.in-Some.token
    (sym c.in-Some.is ∙ c.second.ensures) in
    c.terminal_of.ensures ∙ ap first_terminal (sym there.1)
