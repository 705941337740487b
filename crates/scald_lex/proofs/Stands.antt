-- The tokens of a text stand in it in order.
use Rattle.std.proofs.Common.{◌≡◌, ℕ, ◌+◌, ◌-◌, ◌<◌, ◌≤◌, Bool, true, false, nat_lt, List, [], ◌∷◌, ◌++◌, length, take, drop, Some, None, refl, ap, subst, arith}
use borrow.Author.Tests.{ltb-true, ltb-false}
use Rattle.std.proofs.lemmas.List.{drop_all}
use Rattle.scald_lex.specs.declared.piece.Piece.{Piece}
use Rattle.scald_lex.specs.declared.piece.Piece.TheVariants.{Space, LineEnd, Comment, Lexeme}
use Rattle.scald_lex.specs.declared.token.TokenKind.{TokenKind}
use Rattle.scald_lex.specs.declared.token.Token.{Token}
use Rattle.scald_lex.specs.Piece.{piece_at}
use Rattle.scald_lex.specs.Place.{place_at}
use Rattle.scald_lex.specs.Tokens.{size, IsCut, token_of, tokens_of}
use Rattle.scald_lex.specs.Laws.{Spells, IsTokenOf, StandFrom, TokensStand}
use Rattle.scald_lex.proofs.Spelt.{spelt}
use Rattle.scald_lex.proofs.Whole.{advance}

nothing_past : (text : List ℕ) (at : ℕ) (p : Piece) (b : Bool) → nat_lt at (length text) ≡ b → piece_at (drop at text) ≡ Some p → at < length text
unfolding piece_at
nothing_past text at p true e h = ltb-true at (length text) e
nothing_past text at p false e h = absurd (let n : piece_at (drop at text) ≡ None = ap piece_at (drop_all at text (ltb-false at (length text) e)) in cc)

-- A piece stands before the end of the text.
pub before_end : (text : List ℕ) (at : ℕ) (p : Piece) → piece_at (drop at text) ≡ Some p → at < length text
before_end text at p h = nothing_past text at p (nat_lt at (length text)) refl h

lower : (text : List ℕ) (low from : ℕ) (ts : List Token) → low ≤ from → StandFrom text from ts → StandFrom text low ts
lower text low from [] h stand = omega arith
lower text low from (t ∷ ts) h stand = let k = stand.0 in (omega arith, stand.1, stand.2)

pub token_is : (text : List ℕ) (at : ℕ) (kind : TokenKind) (count : ℕ) → piece_at (drop at text) ≡ Some (Lexeme kind count) →
    IsTokenOf text (record { kind = kind; place = place_at text at; start = at; end = at + count })
token_is text at kind count h =
    let is = advance text at (Lexeme kind count) (before_end text at (Lexeme kind count) h) h in
    let some = is.some in
    record {
      some = omega arith;
      within = is.within;
      place = refl;
      spelled = subst (λ (n : ℕ). Spells kind (take n (drop at text))) (let e : count ≡ at + count - at = omega arith in e) (spelt (drop at text) (Lexeme kind count) h);
    }

one_stands : (text : List ℕ) (at : ℕ) (p : Piece) (ts : List Token) → piece_at (drop at text) ≡ Some p → StandFrom text (at + size p) ts → StandFrom text at (token_of text at p ++ ts)
one_stands text at Space ts h stand = lower text at (at + 1) ts (omega arith) stand
one_stands text at LineEnd ts h stand = lower text at (at + 1) ts (omega arith) stand
one_stands text at (Comment count) ts h stand = lower text at (at + count) ts (omega arith) stand
one_stands text at (Lexeme kind count) ts h stand = (omega arith, token_is text at kind count h, stand)

stand_from : (text : List ℕ) (from : ℕ) (ps : List Piece) → IsCut text from ps (length text) → StandFrom text from (tokens_of text from ps)
stand_from text from [] e = omega arith
stand_from text from (p ∷ ps) cut = one_stands text from p (tokens_of text (from + size p) ps) cut.0 (stand_from text (from + size p) ps cut.1)

pub tokens_stand : TokensStand
tokens_stand text tokens are = record {
  before = tokens_of text 0 are.pieces;
  are = are.are;
  stand = stand_from text 0 are.pieces are.whole;
}
