-- Small texts: their places, their tokens and what lies between them, and why they are refused,
-- both ways.
use Rattle.std.proofs.Common.{◌≡◌, ℕ, zero, suc, ◌<◌, ◌≤◌, true, false, List, [], ◌∷◌, map, Some, None, Ok, Err, inl, inr, pos, refl, ap, arith}
use Rattle.std.specs.Prelude.{codes, slice_index, replicate}
use Rattle.std.proofs.lemmas.List.Sums.{AllPass-from_list_all}
use Rattle.scald_base.specs.declared.refusal.Place.{Place}
use Rattle.scald_base.specs.declared.refusal.Refusal.{Refusal}
use Rattle.scald_base.specs.declared.refusal.RefusalKind.TheVariants.{BadByte, BadToken}
use Rattle.scald_base.specs.declared.refusal.Stop.TheVariants.{Refused}
use Rattle.scald_lex.specs.declared.piece.Piece.TheVariants.{Space, LineEnd, Comment, Lexeme}
use Rattle.scald_lex.specs.declared.token.Token.{Token}
use Rattle.scald_lex.specs.declared.token.TokenKind.{TokenKind}
use Rattle.scald_lex.specs.declared.token.TokenKind.TheVariants.{Word, Number, Name, Arrow, Symbol, End}
use Rattle.scald_lex.specs.Bytes.{is_allowed, is_name_byte}
use Rattle.scald_lex.specs.Piece.{word_at, number_at, name_behind, dash_before, piece_at}
use Rattle.scald_lex.specs.Place.{place_at, IsPlaceOf, IsPlacedStop}
use Rattle.scald_lex.specs.Scan.{GivesList, GivesRefusal}
use Rattle.scald_lex.specs.Tokens.{AreTokens, IsRefused, bad_byte, bad_token}
use Rattle.scald_lex.specs.Between.{IsComment, IsGap, nothing, blank, comment}
use Rattle.scald_lex.specs.Causes.{HasCause, open_name, long_word, large_number, stray_byte}
use Rattle.scald_lex.proofs.Caused.{caused_none}

-- ---- places

abbrev place : ℕ → ℕ → Place
place line col = record { line = line; col = col }

-- AB, the end of the line, and C
abbrev two_lines : List ℕ
two_lines = 65 ∷ 66 ∷ 10 ∷ 67 ∷ []

first_byte : place_at two_lines 0 ≡ place 1 1
first_byte = refl

end_of_line : place_at two_lines 2 ≡ place 1 3
end_of_line = refl

next_line : place_at two_lines 3 ≡ place 2 1
next_line = refl

end_of_text : place_at two_lines 4 ≡ place 2 2
end_of_text = refl

-- A carriage return and a tabulator are one column each, and end no line.
other_spaces : place_at (13 ∷ 9 ∷ 65 ∷ []) 2 ≡ place 1 3
other_spaces = refl

at_the_end : IsPlaceOf two_lines (place 2 2)
at_the_end = record { at = 4; within = omega arith; is = refl }

behind_the_line : IsPlaceOf two_lines (place 1 4) → ⊥
behind_the_line h = one h.at h.within (ap (λ (p : Place). p.col) h.is)
  where
    one : (at : ℕ) → at ≤ 4 → 4 ≡ (place_at two_lines at).col → ⊥
    one zero h e = omega arith
    one (suc zero) h e = omega arith
    one (suc (suc zero)) h e = omega arith
    one (suc (suc (suc zero))) h e = omega arith
    one (suc (suc (suc (suc zero)))) h e = omega arith
    one (suc (suc (suc (suc (suc at))))) h e = omega arith

-- A refusal there is none of this text, wherever reading stopped.
stop_behind_the_line : IsPlacedStop two_lines (Refused (record {
  kind = BadToken;
  place =
      place 1 4;
})) → ⊥
stop_behind_the_line h = behind_the_line h

-- ---- bytes

-- at each edge: 8 to 14, 31, 32, 126 (`~`), 127, 128 and 255
allowed_at_edges : map is_allowed (8 ∷ 9 ∷ 10 ∷ 11 ∷ 12 ∷ 13 ∷ 14 ∷ 31 ∷ 32 ∷ 126 ∷ 127 ∷ 128 ∷ 255 ∷ [])
    ≡ false ∷ true ∷ true ∷ false ∷ false ∷ true ∷ false ∷ false ∷ true ∷ true ∷ false ∷ false
    ∷ false ∷ []
allowed_at_edges = refl

-- a tabulator, a carriage return, 31, the space, `!`, a quote, `#`, `~` and 127
in_a_name : map is_name_byte (9 ∷ 13 ∷ 31 ∷ 32 ∷ 33 ∷ 34 ∷ 35 ∷ 126 ∷ 127 ∷ [])
    ≡ false ∷ false ∷ false ∷ true ∷ true ∷ false ∷ true ∷ true ∷ false ∷ []
in_a_name = refl

-- ---- answers

refused_for_a_list : (list : List Token) (r : Refusal) → GivesList list (Err (Refused r)) → ⊥
refused_for_a_list list r h = cc

list_for_a_refusal : (found : List Token) (r : Refusal) → GivesRefusal r (Ok found) → ⊥
list_for_a_refusal found r h = h

abbrev byte_refusal : Refusal
byte_refusal = record { kind = BadByte; place = place 1 1 }

abbrev token_refusal : Refusal
token_refusal = record { kind = BadToken; place = place 1 1 }

another_refusal : GivesRefusal token_refusal (Err (Refused byte_refusal)) → ⊥
another_refusal (inl e) = let same : byte_refusal ≡ token_refusal = cc in
    let kinds : BadByte ≡ BadToken = ap (λ (r : Refusal). r.kind) same in cc
another_refusal (inr e) = cc

-- ---- what stands in front

word_of_64 : piece_at (replicate 64 65) ≡ Some (Lexeme Word 64)
unfolding piece_at word_at
word_of_64 = refl

word_of_65 : piece_at (replicate 65 65) ≡ None
unfolding piece_at word_at
word_of_65 = refl

greatest : piece_at (codes "9223372036854775807") ≡ Some
    (Lexeme (Number (pos 9223372036854775807)) 19)
unfolding piece_at number_at
greatest = refl

too_large : piece_at (codes "9223372036854775808") ≡ None
unfolding piece_at number_at
too_large = refl

leading_zeros : piece_at (codes "007.") ≡ Some (Lexeme (Number (pos 7)) 3)
unfolding piece_at number_at
leading_zeros = refl

closed_name : piece_at (codes "\"A.B\" ") ≡ Some (Lexeme Name 5)
unfolding piece_at name_behind
closed_name = refl

name_to_the_end : piece_at (codes "\"AB") ≡ None
unfolding piece_at name_behind
name_to_the_end = refl

name_over_a_tabulator : piece_at (34 ∷ 65 ∷ 9 ∷ 34 ∷ []) ≡ None
unfolding piece_at name_behind
name_over_a_tabulator = refl

arrow_first : piece_at (codes "->") ≡ Some (Lexeme Arrow 2)
unfolding piece_at dash_before
arrow_first = refl

lone_dash : piece_at (codes "- >") ≡ Some (Lexeme (Symbol 45) 1)
unfolding piece_at dash_before
lone_dash = refl

comment_first : piece_at (45 ∷ 45 ∷ 62 ∷ 13 ∷ 10 ∷ []) ≡ Some (Comment 4)
unfolding piece_at dash_before
comment_first = refl

-- ---- the tokens of a text

-- A, a space, a comment, the end of the line, and <"C"
abbrev text : List ℕ
text = 65 ∷ 32 ∷ 45 ∷ 45 ∷ 32 ∷ 98 ∷ 10 ∷ 60 ∷ 34 ∷ 67 ∷ 34 ∷ []

abbrev token : TokenKind → Place → ℕ → ℕ → Token
token kind at start end = record { kind = kind; place = at; start = start; end = end }

its_tokens : AreTokens text (token Word (place 1 1) 0 1 ∷ token (Symbol 60) (place 2 1) 7 8 ∷ token
    Name (place 2 2) 8 11 ∷ token End (place 2 5) 11 11 ∷ [])
unfolding piece_at word_at name_behind dash_before
its_tokens = record {
  allowed = λ k h. AllPass-from_list_all is_allowed text refl k 0 h;
  pieces = Lexeme Word 1 ∷ Space ∷ Comment 4 ∷ LineEnd ∷ Lexeme (Symbol 60) 1 ∷ Lexeme Name 3 ∷ [];
  whole = (refl, (refl, (refl, (refl, (refl, (refl, refl))))));
  are = refl;
}

-- ---- what lies between them

its_comment : IsComment text 2 6
its_comment = record {
  dashes = refl;
  longer = omega arith;
  within = omega arith;
  on_line = one;
  ended = inr refl;
}
  where
    one : (k : ℕ) → 2 ≤ k → k < 6 → slice_index text k ≡ 10 → ⊥
    one zero l h e = omega arith
    one (suc zero) l h e = omega arith
    one (suc (suc zero)) l h e = omega arith
    one (suc (suc (suc zero))) l h e = omega arith
    one (suc (suc (suc (suc zero)))) l h e = omega arith
    one (suc (suc (suc (suc (suc zero))))) l h e = omega arith
    one (suc (suc (suc (suc (suc (suc k)))))) l h e = omega arith

between : IsGap text 1 7
between = blank 1 7 (omega arith) refl (comment 2 6 7 its_comment
    (blank 6 7 (omega arith) refl (nothing 7)))

-- A comment does not end before its line, nor go on after it.
shorter_comment : IsComment text 2 5 → ⊥
shorter_comment is = elim is.ended [ inl e ↦ omega arith | inr e ↦ omega arith ]

longer_comment : IsComment text 2 7 → ⊥
longer_comment is = is.on_line 6 (omega arith) (omega arith) refl

-- ---- causes of refusal

open_by_the_end : HasCause (codes "\"AB")
open_by_the_end = open_name (record {
  inside = codes "AB";
  behind = [];
  parts = refl;
  printable =
      refl;
  breaks = tt;
})

open_by_the_line : HasCause (34 ∷ 65 ∷ 10 ∷ 34 ∷ [])
open_by_the_line = open_name (record {
  inside = codes "A";
  behind = 10 ∷ 34 ∷ [];
  parts = refl;
  printable = refl;
  breaks = refl;
})

closed_is_none : HasCause (codes "\"A.B\" ") → ⊥
closed_is_none c = let n = caused_none (codes "\"A.B\" ") c in let s = closed_name in cc

long_by_one : HasCause (replicate 65 65)
long_by_one = long_word (record {
  word = replicate 65 65;
  behind = [];
  parts = refl;
  form = refl;
  long = omega arith;
})

long_enough : HasCause (replicate 64 65) → ⊥
long_enough c = let n = caused_none (replicate 64 65) c in let s = word_of_64 in cc

large_by_one : HasCause (codes "9223372036854775808")
large_by_one = large_number (record {
  digits = codes "9223372036854775808";
  behind = [];
  parts =
      refl;
  some = omega arith;
  all = refl;
  large = omega arith;
})

large_enough : HasCause (codes "9223372036854775807") → ⊥
large_enough c = let n = caused_none (codes "9223372036854775807") c in let s = greatest in cc

stray_dot : HasCause (codes ".P")
stray_dot = stray_byte (record { first = 46; behind = codes "P"; parts = refl; stray = refl })

-- ---- refusals

-- A byte that is not allowed comes first, wherever it stands.
byte_before_token : IsRefused (46 ∷ 200 ∷ []) (record { kind = BadByte; place = place 1 2 })
byte_before_token = bad_byte 1 (record { within = omega arith; before = one; bad = refl }) refl
  where
    one : (k : ℕ) → k < 1 → is_allowed (slice_index (46 ∷ 200 ∷ []) k) ≡ true
    one zero h = refl
    one (suc k) h = absurd (omega arith)

-- The place is that of the name's quote, and not of the end of its line.
token_at_its_first_byte : IsRefused (65 ∷ 10 ∷ 34 ∷ 66 ∷ 10 ∷ [])
    (record { kind = BadToken; place = place 2 1 })
unfolding piece_at word_at name_behind
token_at_its_first_byte = bad_token 2 (record {
  allowed = λ k h. AllPass-from_list_all is_allowed (65 ∷ 10 ∷ 34 ∷ 66 ∷ 10 ∷ []) refl k 0 h;
  within = omega arith;
  pieces = Lexeme Word 1 ∷ LineEnd ∷ [];
  before = (refl, (refl, refl));
  bad = refl;
}) refl
