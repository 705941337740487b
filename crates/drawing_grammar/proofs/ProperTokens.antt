-- The tokens of a text whose names are good: their words are free, their numbers those of tokens.
use Rattle.std.proofs.Common.{◌≡◌, ℕ, Bool, false, List, [], ◌∷◌, ◌++◌, refl, sym, subst}
use Rattle.std.specs.Prelude.{⊤, slice_range}
use Rattle.scald_base.specs.Time.{Header}
use Rattle.scald_base.specs.declared.refusal.Place.{Place}
use Rattle.scald_lex.specs.declared.token.TokenKind.{TokenKind}
use Rattle.scald_lex.specs.declared.token.TokenKind.TheVariants as kind
use Rattle.scald_lex.specs.declared.token.Token as lex
use Rattle.scald_lex.specs.Tokens.{AreTokens, end_token}
use Rattle.scald_lex.specs.Laws.{Spells, StandFrom}
use Rattle.scald_lex.proofs.Stands.{tokens_stand}
use Rattle.assertion_syntax.specs.declared.name.SignalName.{SignalName}
use Rattle.drawing_tree.specs.WellFormed.{IsFreeWord, IsGoodName}
use Rattle.drawing_grammar.specs.declared.terminal.Terminal.{Terminal}
use Rattle.drawing_grammar.specs.declared.terminal.Terminal.TheVariants as is
use Rattle.drawing_grammar.specs.Lexeme.{Lexeme, lexemes, terminal, number_of}
use Rattle.drawing_grammar.specs.Sketch.{unquoted, signal_of}
use Rattle.drawing_grammar.specs.Names.{Naming, naming, names_at, head_behind, names_from, IsGood, AreGood}
use Rattle.drawing_grammar.proofs.Signals.{named}
use Rattle.drawing_grammar.proofs.Drawable.{IsDrawnNumber}
use Rattle.drawing_grammar.proofs.Proper.{AreProper}
use Rattle.drawing_grammar.proofs.WordTerminals.{word_free, word_no_number, symbol_no_word, symbol_no_number}

-- ---- tokens of a text

record IsLexical (t : Lexeme) : Type 0 where
  word : terminal t ≡ is.Word → IsFreeWord t.text
  number : terminal t ≡ is.Number → IsDrawnNumber (number_of t)

abbrev lexeme : TokenKind → List ℕ → Place → Lexeme
lexeme k text place = record { kind = k; text = text; place = place }

lexical_of : (k : TokenKind) (text : List ℕ) (place : Place) → Spells k text → IsLexical (lexeme k text place)
lexical_of kind.Word text place s = record { word = λ e. record { is_word = s; is_free = word_free text e }; number = λ e. absurd (word_no_number text e) }
lexical_of (kind.Number n) text place s = record { word = λ e. absurd cc; number = λ e. subst IsDrawnNumber (sym s.1) s.0.fits }
lexical_of kind.Name text place s = record { word = λ e. absurd cc; number = λ e. absurd cc }
lexical_of kind.Arrow text place s = record { word = λ e. absurd cc; number = λ e. absurd cc }
lexical_of (kind.Symbol b) text place s = record { word = λ e. absurd (symbol_no_word b e); number = λ e. absurd (symbol_no_number b e) }
lexical_of kind.End text place s = record { word = λ e. absurd cc; number = λ e. absurd cc }

lexical_end : (text : List ℕ) (place : Place) → IsLexical (lexeme kind.End text place)
lexical_end text place = record { word = λ e. absurd cc; number = λ e. absurd cc }

abbrev AreLexical : List Lexeme → Type 0
AreLexical [] = ⊤
AreLexical (t ∷ ts) = IsLexical t × AreLexical ts

all_lexical : (text : List ℕ) (before : List lex.Token) (from : ℕ) → StandFrom text from before → AreLexical (lexemes text (before ++ end_token text ∷ []))
all_lexical text [] from s = (lexical_end _ _, tt)
all_lexical text (t ∷ ts) from s = (lexical_of t.kind (slice_range text t.start t.end) t.place s.1.spelled, all_lexical text ts t.end s.2)

-- ---- names

pub first_good : (h : Header) (l : Terminal) (in_head : Bool) (t : Lexeme) (more : List Naming) →
    AreGood h (names_at in_head l t ++ more) → (l ≡ is.Name → IsGood h (naming in_head t)) × AreGood h more
first_good h is.Scald in_head t more a = (λ e. absurd cc, a)
first_good h is.Clock in_head t more a = (λ e. absurd cc, a)
first_good h is.Wire in_head t more a = (λ e. absurd cc, a)
first_good h is.Pskew in_head t more a = (λ e. absurd cc, a)
first_good h is.Cskew in_head t more a = (λ e. absurd cc, a)
first_good h is.Macro in_head t more a = (λ e. absurd cc, a)
first_good h is.Drawing in_head t more a = (λ e. absurd cc, a)
first_good h is.Case in_head t more a = (λ e. absurd cc, a)
first_good h is.If in_head t more a = (λ e. absurd cc, a)
first_good h is.Then in_head t more a = (λ e. absurd cc, a)
first_good h is.Else in_head t more a = (λ e. absurd cc, a)
first_good h is.End in_head t more a = (λ e. absurd cc, a)
first_good h is.Zero in_head t more a = (λ e. absurd cc, a)
first_good h is.One in_head t more a = (λ e. absurd cc, a)
first_good h is.Word in_head t more a = (λ e. absurd cc, a)
first_good h is.Number in_head t more a = (λ e. absurd cc, a)
first_good h is.Name in_head t more a = (λ e. a.0, a.1)
first_good h is.Arrow in_head t more a = (λ e. absurd cc, a)
first_good h is.Semicolon in_head t more a = (λ e. absurd cc, a)
first_good h is.Colon in_head t more a = (λ e. absurd cc, a)
first_good h is.Comma in_head t more a = (λ e. absurd cc, a)
first_good h is.OpenParenthesis in_head t more a = (λ e. absurd cc, a)
first_good h is.CloseParenthesis in_head t more a = (λ e. absurd cc, a)
first_good h is.Less in_head t more a = (λ e. absurd cc, a)
first_good h is.Greater in_head t more a = (λ e. absurd cc, a)
first_good h is.OpenBracket in_head t more a = (λ e. absurd cc, a)
first_good h is.CloseBracket in_head t more a = (λ e. absurd cc, a)
first_good h is.OpenBrace in_head t more a = (λ e. absurd cc, a)
first_good h is.CloseBrace in_head t more a = (λ e. absurd cc, a)
first_good h is.Equals in_head t more a = (λ e. absurd cc, a)
first_good h is.Plus in_head t more a = (λ e. absurd cc, a)
first_good h is.Minus in_head t more a = (λ e. absurd cc, a)
first_good h is.Star in_head t more a = (λ e. absurd cc, a)
first_good h is.Slash in_head t more a = (λ e. absurd cc, a)
first_good h is.Ampersand in_head t more a = (λ e. absurd cc, a)
first_good h is.Exclamation in_head t more a = (λ e. absurd cc, a)
first_good h is.EndOfText in_head t more a = (λ e. absurd cc, a)

signal_good : (h : Header) (in_head : Bool) (t : Lexeme) → IsGood h (naming in_head t) → IsGoodName h (signal_of t)
signal_good h in_head t good =
    let F : SignalName → Type 0 = λ n. IsGoodName h n in
    subst F (named t.text (unquoted t.text) good.name refl good.spelled) (record { is_name = good.spelled.is_name; fits = good.fits })

all_proper : (h : Header) (ts : List Lexeme) (in_head : Bool) → AreLexical ts → AreGood h (names_from in_head ts) → AreProper (λ n. IsGoodName h n) ts
unfolding names_from
all_proper h [] in_head ls gs = tt
all_proper h (t ∷ ts) in_head ls gs =
    let split = first_good h (terminal t) in_head t (names_from (head_behind in_head (terminal t)) ts) gs in
    (record { word = ls.0.word; number = ls.0.number; name = λ e. signal_good h in_head t (split.0 e) }, all_proper h ts (head_behind in_head (terminal t)) ls.1 split.1)

pub tokens_proper : (h : Header) (text : List ℕ) (tokens : List lex.Token) → AreTokens text tokens →
    AreGood h (names_from false (lexemes text tokens)) → AreProper (λ n. IsGoodName h n) (lexemes text tokens)
tokens_proper h text tokens are good =
    let stand = tokens_stand text tokens are in
    let F : List lex.Token → Type 0 = λ ts. AreLexical (lexemes text ts) in
    all_proper h (lexemes text tokens) false (subst F (sym stand.are) (all_lexical text stand.before 0 stand.stand)) good
