-- What stands after the next token.
use Rattle.std.proofs.Common.{◌≡◌, ◌≢◌, ℕ, Bool, true, false, not, List, [], ◌∷◌, Some, None, refl, sym, ap}
use Rattle.std.specs.Prelude.{IsTrue, IsFalse, slice_get}
use Rattle.scald_lex.specs.declared.token.Token as lex
use Rattle.drawing_grammar.specs.declared.terminal.Terminal.TheVariants.{Colon, EndOfText}
use Rattle.drawing_grammar.specs.Lexeme.{Lexeme, terminal, lexeme_of, lexemes}
use Rattle.drawing_grammar.specs.Front.{first_terminal, behind_first}
use Rattle.drawing_grammar.specs.Machine.{same, no_colon}
use Rattle.drawing_grammar.proofs.Terminals.{is_same, same_is}

pub first_there : (text : List ℕ) (ts : List lex.Token) (u : lex.Token) →
    Some u ≡ slice_get ts 0 → (us : List Lexeme) × (lexemes text ts ≡ lexeme_of text u ∷ us)
first_there text [] u e = absurd cc
first_there text (t ∷ ts) u e =
    let same : t ≡ u = cc in
    (lexemes text ts, ap (λ (x : lex.Token). lexeme_of text x ∷ lexemes text ts) same)

pub none_second : (text : List ℕ) (ts : List lex.Token) → None ≡ slice_get ts 1 →
    false ≡ no_colon (behind_first (lexemes text ts))
none_second text [] e = refl
none_second text (t ∷ []) e = refl
none_second text (t ∷ u ∷ us) e = absurd cc

pub no_second : (text : List ℕ) (ts : List lex.Token) → None ≡ slice_get ts 1 →
    EndOfText ≡ first_terminal (behind_first (lexemes text ts))
no_second text [] e = refl
no_second text (t ∷ []) e = refl
no_second text (t ∷ u ∷ us) e = absurd cc

pub second_there : (text : List ℕ) (ts : List lex.Token) (u : lex.Token) →
    Some u ≡ slice_get ts 1 → (us : List Lexeme)
    × (behind_first (lexemes text ts) ≡ lexeme_of text u ∷ us)
second_there text [] u e = absurd cc
second_there text (t ∷ []) u e = absurd cc
second_there text (t ∷ v ∷ vs) u e =
    let same : v ≡ u = cc in
    (lexemes text vs, ap (λ (x : lex.Token). lexeme_of text x ∷ lexemes text vs) same)

pub colon_behind : (us : List Lexeme) (b : Bool) → us ≢ [] → (IsTrue b → first_terminal us ≡ Colon) →
    (IsFalse b → first_terminal us ≢ Colon) → not b ≡ no_colon us
colon_behind [] b h y n = absurd (h refl)
colon_behind (u ∷ us) true h y n = sym (ap not (is_same (terminal u) Colon (y refl)))
colon_behind (u ∷ us) false h y n = one (same (terminal u) Colon) refl
  where
    one : (k : Bool) → same (terminal u) Colon ≡ k → true ≡ not k
    one true e = absurd (n refl (same_is (terminal u) Colon e))
    one false e = refl
