-- What stands first among tokens.
use Rattle.std.specs.Prelude.{◌≡◌, ℕ, Bool, true, false, List, [], ◌∷◌, Option, None}
use Rattle.scald_base.specs.declared.refusal.Place.{Place}
use Rattle.drawing_grammar.specs.declared.terminal.Keyword.{Keyword}
use Rattle.drawing_grammar.specs.declared.terminal.Keyword.TheVariants.{Const}
use Rattle.drawing_grammar.specs.declared.terminal.Terminal.{Terminal}
use Rattle.drawing_grammar.specs.declared.terminal.Terminal.TheVariants.{EndOfText, Word}
use Rattle.drawing_grammar.specs.declared.edition.Edition.{Edition}
use Rattle.drawing_grammar.specs.declared.edition.Edition.TheVariants.{First, Second}
use Rattle.drawing_grammar.specs.Lexeme.{Lexeme, terminal}
use Rattle.drawing_grammar.specs.Grammar.{Part, Choice, constant, use_, for_, opening, keyword_text}
use Rattle.drawing_grammar.specs.Machine.{nowhere, is_loop, choice_at}

abbrev pub first_terminal : List Lexeme → Terminal
first_terminal [] = EndOfText
first_terminal (t ∷ ts) = terminal t

abbrev pub first_place : List Lexeme → Place
first_place [] = nowhere
first_place (t ∷ ts) = t.place

abbrev pub first_text : List Lexeme → List ℕ
first_text [] = []
first_text (t ∷ ts) = t.text

abbrev pub behind_first : List Lexeme → List Lexeme
behind_first [] = []
behind_first (t ∷ ts) = ts

-- the choice of a part that stands first
abbrev pub first_choice : (p : Part) → List Lexeme → Option (Choice p)
first_choice p [] = None
first_choice p (t ∷ ts) = choice_at p t ts

-- A FOR of version 2 stands first, where a statement may.
abbrev pub at_loop : Edition → List Lexeme → Bool
at_loop First ts = false
at_loop Second [] = false
at_loop Second (t ∷ ts) = is_loop t ts

-- this keyword stands first
abbrev pub AtKeyword : Keyword → List Lexeme → Type 0
AtKeyword x ts = (first_terminal ts ≡ Word) × (first_text ts ≡ keyword_text x)

-- The choice stands first: a constant and a FOR are known by their words, a use by a word with
-- which no FOR begins, and any other choice by its first token.
abbrev pub At : {p : Part} → Choice p → List Lexeme → Type 0
At constant ts = AtKeyword Const ts
At for_ ts = at_loop Second ts ≡ true
At (use_ {v = v}) ts = (first_terminal ts ≡ Word) × (at_loop v ts ≡ false)
At c ts = first_terminal ts ≡ opening c
