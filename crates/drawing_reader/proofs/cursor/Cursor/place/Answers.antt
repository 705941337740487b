use Rattle.std.proofs.Common.{sym, ap, ◌∙◌}
use Rattle.drawing_grammar.specs.Front.{first_place}
use Rattle.drawing_reader.proofs.Behind.{first_there}
use Rattle.drawing_reader.proofs.cursor.Cursor.place.Goals as goal

pub returns-in-Some : goal.returns-in-Some
returns-in-Some c =
    let there = first_there c.args.self.now.text.now c.args.self.now.rest c.in-Some.token
    (sym c.in-Some.is ∙ c.first.ensures) in
    ap first_place (sym there.1)
