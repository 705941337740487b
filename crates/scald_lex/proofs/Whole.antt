-- Each text has tokens or a refusal.
use Rattle.std.proofs.Common.{◌≡◌, ℕ, zero, suc, ◌+◌, ◌<◌, ◌≤◌, Bool, true, false, List, [], ◌∷◌, ◌++◌, length, get_or, drop, Option, Some, None, ◌⊎◌, inl, inr, refl, subst, arith}
use borrow.Author.Count.{below_more}
use borrow.Author.Tests.{ltb-true, ltb-false}
use Rattle.std.specs.Prelude.{nat_lt}
use Rattle.scald_base.specs.declared.refusal.RefusalKind.TheVariants.{BadByte, BadToken}
use Rattle.scald_lex.specs.declared.piece.Piece.{Piece}
use Rattle.scald_lex.specs.declared.piece.Piece.TheVariants.{Space, LineEnd, Comment, Lexeme}
use Rattle.scald_lex.specs.Bytes.{is_allowed}
use Rattle.scald_lex.specs.Piece.{piece_at}
use Rattle.scald_lex.specs.Place.{place_at}
use Rattle.scald_lex.specs.Tokens.{size, IsCut, tokens_of, end_token, IsAllowed, IsBadByte, IsBadToken, bad_byte, bad_token}
use Rattle.scald_lex.specs.Laws.{HasTokens, HasRefusal, TokensOrRefusal}
use Rattle.scald_lex.proofs.Pieces.{IsOnLine, advances}
use Rattle.scald_lex.proofs.Cuts.{cut_more, ends_within}

-- ---- the first byte that is not allowed

abbrev AllowedBelow : List ℕ → ℕ → Type 0
AllowedBelow text n = (k : ℕ) → k < n → is_allowed (get_or text k 0) ≡ true

record HasBadByte (text : List ℕ) : Type 0 where
  at : ℕ
  bad : IsBadByte text at

looked_at : (text : List ℕ) (n : ℕ) (b : Bool) → n < length text → AllowedBelow text n → is_allowed (get_or text n 0) ≡ b → AllowedBelow text (suc n) ⊎ HasBadByte text
looked_at text n true h before here =
    inl (let all : AllowedBelow text (n + 1) = below_more (λ (k : ℕ). is_allowed (get_or text k 0) ≡ true) n before here in
    subst (AllowedBelow text) (let e : n + 1 ≡ suc n = omega arith in e) all)
looked_at text n false h before here = inr (record { at = n; bad = record { within = h; before = before; bad = here } })

one_further : (text : List ℕ) (n : ℕ) → n < length text → AllowedBelow text n ⊎ HasBadByte text → AllowedBelow text (suc n) ⊎ HasBadByte text
one_further text n h (inl before) = looked_at text n (is_allowed (get_or text n 0)) h before refl
one_further text n h (inr bad) = inr bad

allowed_up_to : (text : List ℕ) (n : ℕ) → n ≤ length text → AllowedBelow text n ⊎ HasBadByte text
allowed_up_to text zero h = inl (λ k l. absurd (omega arith))
allowed_up_to text (suc n) h = one_further text n (omega arith) (allowed_up_to text n (omega arith))

-- ---- pieces up to the end, or up to where none begins

pub record IsAdvance (text : List ℕ) (at : ℕ) (p : Piece) : Type 0 where
  pub some : 0 < size p
  pub within : at + size p ≤ length text

on_line : (text : List ℕ) (at : ℕ) (p : Piece) → IsOnLine (size p) (drop at text) → IsAdvance text at p
on_line text at p is = record { some = is.some; within = ends_within text at (size p) is }

pub advance : (text : List ℕ) (at : ℕ) (p : Piece) → at < length text → piece_at (drop at text) ≡ Some p → IsAdvance text at p
advance text at Space h e = on_line text at Space (advances (drop at text) Space e)
advance text at LineEnd h e = record { some = omega arith; within = omega arith }
advance text at (Comment count) h e = on_line text at (Comment count) (advances (drop at text) (Comment count) e)
advance text at (Lexeme kind count) h e = on_line text at (Lexeme kind count) (advances (drop at text) (Lexeme kind count) e)

record IsWhole (text : List ℕ) : Type 0 where
  pieces : List Piece
  cut : IsCut text 0 pieces (length text)

record HasBadToken (text : List ℕ) : Type 0 where
  at : ℕ
  bad : IsBadToken text at

-- What there is of a text once its pieces go on from a later byte.
abbrev GoesOn : List ℕ → ℕ → Type 0
GoesOn text at = (ps : List Piece) (to : ℕ) → at < to → to ≤ length text → IsCut text 0 ps to → IsWhole text ⊎ HasBadToken text

by_piece : (text : List ℕ) (ps : List Piece) (at : ℕ) → GoesOn text at → IsAllowed text →
    IsCut text 0 ps at → at < length text → (o : Option Piece) → piece_at (drop at text) ≡ o → IsWhole text ⊎ HasBadToken text
by_piece text ps at on allowed cut h None e = inr (record { at = at; bad = record { allowed = allowed; within = h; pieces = ps; before = cut; bad = e } })
by_piece text ps at on allowed cut h (Some p) e =
    let is = advance text at p h e in
    let some = is.some in
    on (ps ++ p ∷ []) (at + size p) (omega arith) is.within (cut_more text 0 ps at p cut e)

by_end : (text : List ℕ) (ps : List Piece) (at : ℕ) → GoesOn text at → IsAllowed text →
    IsCut text 0 ps at → at ≤ length text → (b : Bool) → nat_lt at (length text) ≡ b → IsWhole text ⊎ HasBadToken text
by_end text ps at on allowed cut h true e = by_piece text ps at on allowed cut (ltb-true at (length text) e) (piece_at (drop at text)) refl
by_end text ps at on allowed cut h false e =
    inl (record {
      pieces = ps;
      cut =
          subst (IsCut text 0 ps) (let k : length text ≤ at = ltb-false at (length text) e in let f : at ≡ length text = omega arith in f) cut;
    })

-- Pieces up to here go on to the end, or up to where none begins. No more than so many bytes are left.
goes_on : (text : List ℕ) (left : ℕ) (ps : List Piece) (at : ℕ) → IsAllowed text → IsCut text 0 ps at → at ≤ length text → length text ≤ at + left → IsWhole text ⊎ HasBadToken text
goes_on text zero ps at allowed cut h far = inl (record { pieces = ps; cut = subst (IsCut text 0 ps) (let e : at ≡ length text = omega arith in e) cut })
goes_on text (suc left) ps at allowed cut h far =
    by_end text ps at (λ qs to more within cut'. goes_on text left qs to allowed cut' within (omega arith)) allowed cut h (nat_lt at (length text)) refl

-- ---- so each text has one of both

with_tokens : (text : List ℕ) → IsAllowed text → IsWhole text ⊎ HasBadToken text → HasTokens text ⊎ HasRefusal text
with_tokens text allowed (inl whole) =
    inl (record {
      tokens = tokens_of text 0 whole.pieces ++ end_token text ∷ [];
      are =
          record { allowed = allowed; pieces = whole.pieces; whole = whole.cut; are = refl };
    })
with_tokens text allowed (inr bad) = inr (record { refusal = record { kind = BadToken; place = place_at text bad.at }; refused = bad_token bad.at bad.bad refl })

with_bytes : (text : List ℕ) → AllowedBelow text (length text) ⊎ HasBadByte text → HasTokens text ⊎ HasRefusal text
with_bytes text (inl allowed) = with_tokens text allowed (goes_on text (length text) [] 0 allowed refl (omega arith) (omega arith))
with_bytes text (inr bad) = inr (record { refusal = record { kind = BadByte; place = place_at text bad.at }; refused = bad_byte bad.at bad.bad refl })

pub tokens_or_refusal : TokensOrRefusal
tokens_or_refusal text = with_bytes text (allowed_up_to text (length text) (omega arith))
