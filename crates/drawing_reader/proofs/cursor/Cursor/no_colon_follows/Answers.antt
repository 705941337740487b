use Rattle.std.proofs.Common.{◌∷◌, sym, ap, ◌∙◌}
use Rattle.drawing_grammar.specs.Lexeme.{lexeme_of}
use Rattle.drawing_grammar.specs.Machine.{no_colon}
use Rattle.drawing_reader.proofs.Behind.{none_second, second_there, colon_behind}
use Rattle.drawing_reader.proofs.cursor.Cursor.no_colon_follows.Goals as goal

pub returns-in-None : goal.returns-in-None
returns-in-None c =
    none_second c.args.self.now.text.now c.args.self.now.rest (sym c.in-None.is ∙ c.second.ensures)

pub returns-in-Some : goal.returns-in-Some
returns-in-Some c =
    let text = c.args.self.now.text.now in
    let there = second_there text c.args.self.now.rest c.in-Some.token
    (sym c.in-Some.is ∙ c.second.ensures) in
    colon_behind (lexeme_of text c.in-Some.token ∷ there.0) c.is_colon.result (λ e. cc)
    (λ t. sym c.terminal_of.ensures ∙ c.is_colon.ensures.yes t)
    (λ f e. c.is_colon.ensures.no f (c.terminal_of.ensures ∙ e))
    ∙ ap no_colon (sym there.1)
