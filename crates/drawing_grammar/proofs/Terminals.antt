-- Each terminal is itself alone, and so is each word that the grammar needs as a keyword.
use Rattle.std.proofs.Common.{◌≡◌, ℕ, zero, suc, ◌<◌, Bool, true, List, [], ◌∷◌, length, refl, sym, ap, ◌∙◌, get_or, arith, lit<}
use Rattle.std.specs.Str.{bytes_eq}
use Rattle.std.specs.List.{list_all}
use Rattle.std.proofs.lemmas.Bool.{eqb-true, eq-eqb, and_parts, and_from}
use Rattle.std.proofs.lemmas.Slice.Eq.{bytes_eq-Decides}
use Rattle.drawing_grammar.specs.declared.terminal.Keyword.{Keyword}
use Rattle.drawing_grammar.specs.declared.terminal.Terminal.{Terminal}
use Rattle.drawing_grammar.specs.declared.terminal.Terminal.TheVariants as is
use Rattle.drawing_grammar.specs.Lexeme.{Lexeme, terminal}
use Rattle.drawing_grammar.specs.Grammar.{keyword_text}
use Rattle.drawing_grammar.specs.Written.{Is}
use Rattle.drawing_grammar.specs.Machine.{code, same, is_keyword}

abbrev pub all : List Terminal
all = is.Scald ∷ is.Clock ∷ is.Wire ∷ is.Pskew ∷ is.Cskew ∷ is.Macro ∷ is.Drawing ∷ is.Case ∷ is.If ∷ is.Then ∷ is.Else ∷ is.End ∷ is.Zero ∷
    is.One ∷ is.Word ∷ is.Number ∷ is.Name ∷ is.Arrow ∷ is.Semicolon ∷ is.Colon ∷ is.Comma ∷ is.OpenParenthesis ∷ is.CloseParenthesis ∷
    is.Less ∷ is.Greater ∷ is.OpenBracket ∷ is.CloseBracket ∷ is.OpenBrace ∷ is.CloseBrace ∷
    is.Equals ∷ is.Plus ∷ is.Minus ∷ is.Star ∷ is.Slash ∷ is.Ampersand ∷ is.Exclamation ∷ is.EndOfText ∷ []

decoded : (l : Terminal) → get_or all (code l) is.Scald ≡ l
decoded is.Scald = refl
decoded is.Clock = refl
decoded is.Wire = refl
decoded is.Pskew = refl
decoded is.Cskew = refl
decoded is.Macro = refl
decoded is.Drawing = refl
decoded is.Case = refl
decoded is.If = refl
decoded is.Then = refl
decoded is.Else = refl
decoded is.End = refl
decoded is.Zero = refl
decoded is.One = refl
decoded is.Word = refl
decoded is.Number = refl
decoded is.Name = refl
decoded is.Arrow = refl
decoded is.Semicolon = refl
decoded is.Colon = refl
decoded is.Comma = refl
decoded is.OpenParenthesis = refl
decoded is.CloseParenthesis = refl
decoded is.Less = refl
decoded is.Greater = refl
decoded is.OpenBracket = refl
decoded is.CloseBracket = refl
decoded is.OpenBrace = refl
decoded is.CloseBrace = refl
decoded is.Equals = refl
decoded is.Plus = refl
decoded is.Minus = refl
decoded is.Star = refl
decoded is.Slash = refl
decoded is.Ampersand = refl
decoded is.Exclamation = refl
decoded is.EndOfText = refl

-- a test of each terminal
abbrev pub at_each : (Terminal → Bool) → Bool
at_each f = list_all f all

known : (l : Terminal) → code l < length all
known is.Scald = lit< tt
known is.Clock = lit< tt
known is.Wire = lit< tt
known is.Pskew = lit< tt
known is.Cskew = lit< tt
known is.Macro = lit< tt
known is.Drawing = lit< tt
known is.Case = lit< tt
known is.If = lit< tt
known is.Then = lit< tt
known is.Else = lit< tt
known is.End = lit< tt
known is.Zero = lit< tt
known is.One = lit< tt
known is.Word = lit< tt
known is.Number = lit< tt
known is.Name = lit< tt
known is.Arrow = lit< tt
known is.Semicolon = lit< tt
known is.Colon = lit< tt
known is.Comma = lit< tt
known is.OpenParenthesis = lit< tt
known is.CloseParenthesis = lit< tt
known is.Less = lit< tt
known is.Greater = lit< tt
known is.OpenBracket = lit< tt
known is.CloseBracket = lit< tt
known is.OpenBrace = lit< tt
known is.CloseBrace = lit< tt
known is.Equals = lit< tt
known is.Plus = lit< tt
known is.Minus = lit< tt
known is.Star = lit< tt
known is.Slash = lit< tt
known is.Ampersand = lit< tt
known is.Exclamation = lit< tt
known is.EndOfText = lit< tt

tested : (f : Terminal → Bool) (ls : List Terminal) (n : ℕ) → list_all f ls ≡ true → n < length ls → f (get_or ls n is.Scald) ≡ true
tested f [] n e h = absurd (omega arith)
tested f (l ∷ ls) zero e h = (and_parts (f l) (list_all f ls) e).0
tested f (l ∷ ls) (suc n) e h = tested f ls n (and_parts (f l) (list_all f ls) e).1 (omega arith)

pub tested_at : (f : Terminal → Bool) → at_each f ≡ true → (l : Terminal) → f l ≡ true
tested_at f e l = ap f (sym (decoded l)) ∙ tested f all (code l) e (known l)

pub same_is : (k l : Terminal) → same k l ≡ true → k ≡ l
same_is k l e = sym (decoded k) ∙ (ap (λ (n : ℕ). get_or all n is.Scald) (eqb-true (code k) (code l) e) ∙ decoded l)

pub is_same : (k l : Terminal) → k ≡ l → same k l ≡ true
is_same k l e = eq-eqb (code k) (code l) (ap code e)

-- ---- keywords

pub keyword_is : (x : Keyword) (t : Lexeme) → is_keyword x t ≡ true → Is x t
keyword_is x t e =
    let k = and_parts (same (terminal t) is.Word) (bytes_eq t.text (keyword_text x)) e in
    (same_is (terminal t) is.Word k.0, (bytes_eq-Decides t.text (keyword_text x)).0 k.1)

pub is_that_keyword : (x : Keyword) (t : Lexeme) → Is x t → is_keyword x t ≡ true
is_that_keyword x t e = and_from (same (terminal t) is.Word) (bytes_eq t.text (keyword_text x))
    (is_same (terminal t) is.Word e.0) ((bytes_eq-Decides t.text (keyword_text x)).1 e.1)
