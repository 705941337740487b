-- Laws of what tokens draw, whichever they are.
use Rattle.std.specs.Prelude.{◌≡◌, ℕ, List, map, All, Contains, ◌⊎◌}
use Rattle.scald_base.specs.declared.refusal.Place.{Place}
use Rattle.scald_base.specs.declared.refusal.Refusal.{Refusal}
use Rattle.scald_lex.specs.declared.token.Token.{Token}
use Rattle.scald_lex.specs.Tokens.{AreTokens}
use Rattle.assertion_syntax.specs.Name.{IsTextOf}
use Rattle.drawing_tree.specs.Tree.{Drawing}
use Rattle.drawing_tree.specs.EachPlace.{EachPlace}
use Rattle.drawing_tree.specs.WellFormed.{IsWellFormed}
use Rattle.drawing_grammar.specs.declared.terminal.Terminal.TheVariants.{Name}
use Rattle.drawing_grammar.specs.Lexeme.{Lexeme, lexemes, terminal}
use Rattle.drawing_grammar.specs.Sketch.{unquoted, signal_of}
use Rattle.drawing_grammar.specs.Drawing.{Draws, IsWrong}

-- Tokens draw one drawing alone.
abbrev pub OneDrawing : Type 0
OneDrawing = (ts : List Lexeme) (d e : Drawing) → Draws ts d → Draws ts e → d ≡ e

-- Tokens that draw a drawing are not refused.
abbrev pub NotBoth : Type 0
NotBoth = (ts : List Lexeme) (d : Drawing) (r : Refusal) → Draws ts d → ¬ IsWrong ts r

-- Tokens are refused for one reason, at one place.
abbrev pub OneRefusal : Type 0
OneRefusal = (ts : List Lexeme) (r s : Refusal) → IsWrong ts r → IsWrong ts s → r ≡ s

-- The tokens of a text draw a drawing, or they are refused.
abbrev pub DrawnOrRefused : Type 0
DrawnOrRefused =
    (text : List ℕ) (tokens : List Token) → AreTokens text tokens →
    ((d : Drawing) × Draws (lexemes text tokens) d)
    ⊎ ((r : Refusal) × IsWrong (lexemes text tokens) r)

-- A name in quotes stands for the one that the text between the quotes spells.
abbrev pub IsSpelled : Lexeme → Type 0
IsSpelled t = terminal t ≡ Name → IsTextOf (signal_of t) (unquoted t.text)

-- So does each name of tokens that draw a drawing.
abbrev pub NamesAreSpelled : Type 0
NamesAreSpelled = (ts : List Lexeme) (d : Drawing) → Draws ts d → All IsSpelled ts

-- A drawing that a text draws is well formed.
abbrev pub DrawnIsWellFormed : Type 0
DrawnIsWellFormed =
    (text : List ℕ) (tokens : List Token) (d : Drawing) → AreTokens text tokens →
    Draws (lexemes text tokens) d → IsWellFormed d

abbrev pub places_of : List Lexeme → List Place
places_of ts = map (λ (t : Lexeme). t.place) ts

-- Tokens are refused at the place of one of them.
abbrev pub WrongAtTokens : Type 0
WrongAtTokens = (ts : List Lexeme) (r : Refusal) → IsWrong ts r → Contains (places_of ts) r.place

-- Each place that stands in a drawing is that of one of the tokens that draw it.
abbrev pub DrawnAtTokens : Type 0
DrawnAtTokens =
    (ts : List Lexeme) (d : Drawing) → Draws ts d → EachPlace (Contains (places_of ts)) d
