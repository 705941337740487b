-- The names of a drawing are those that its text spells.
use Rattle.std.proofs.Common.{◌≡◌, Bool, false, List, [], ◌∷◌, ap, ◌∙◌, refl, subst}
use Rattle.std.specs.List.{AllByRecursion}
use Rattle.std.proofs.lemmas.List.Elements.{All-from_recursion}
use Rattle.scald_base.specs.Time.{Header}
use Rattle.assertion_syntax.specs.declared.name.SignalName.{SignalName}
use Rattle.assertion_syntax.specs.Name.{IsTextOf}
use Rattle.drawing_grammar.specs.Edition.{edition_of}
use Rattle.drawing_grammar.specs.Lexeme.{Lexeme, terminal}
use Rattle.drawing_grammar.specs.Names.{Naming, naming, names, head_behind, names_from, IsGood, AreGood}
use Rattle.drawing_grammar.specs.Sketch.{unquoted, signal_of}
use Rattle.drawing_grammar.specs.Laws.{IsSpelled, NamesAreSpelled}
use Rattle.drawing_grammar.proofs.Heads.{names_of_text}
use Rattle.drawing_grammar.proofs.ProperTokens.{first_good}
use Rattle.drawing_grammar.proofs.Signals.{named}

spelled : (h : Header) (in_head : Bool) (t : Lexeme) → IsGood h (naming in_head t) → IsTextOf (signal_of t) (unquoted t.text)
spelled h in_head t good =
    let F : SignalName → Type 0 = λ n. IsTextOf n (unquoted t.text) in
    subst F (named t.text (unquoted t.text) good.name refl good.spelled) good.spelled

all_spelled : (h : Header) (in_head : Bool) (ts : List Lexeme) → AreGood h (names_from in_head ts) → AllByRecursion IsSpelled ts
unfolding names_from
all_spelled h in_head [] good = tt
all_spelled h in_head (t ∷ ts) good =
    let split = first_good h (terminal t) in_head t (names_from (head_behind in_head (terminal t)) ts) good in
    (λ e. spelled h in_head t (split.0 e), all_spelled h (head_behind in_head (terminal t)) ts split.1)

pub names_are_spelled : NamesAreSpelled
names_are_spelled ts d draws =
    let F : List Naming → Type 0 = λ ns. AreGood d.header ns in
    let same : names draws.written ≡ names_from false ts = names_of_text (edition_of ts) draws.written ∙ ap (λ (xs : List Lexeme). names_from false xs) draws.text.spelled in
    All-from_recursion IsSpelled ts (all_spelled d.header false ts (subst F same draws.names))
