-- Each piece takes at least a byte, and all but the end of a line stay on it.
use Rattle.std.proofs.Common.{◌≡◌, ℕ, ◌+◌, ◌<◌, ◌≤◌, Bool, true, false, cond, nat_le, List, [], ◌∷◌, take, drop, Option, Some, None, pos, refl, subst, arith}
use Rattle.std.specs.Prelude.{◌==◌}
use Rattle.std.specs.List.{prefix_len}
use Rattle.scald_base.specs.Word.{is_letter, is_digit, is_word_byte, longest_word}
use Rattle.scald_lex.specs.declared.piece.Piece.{Piece}
use Rattle.scald_lex.specs.declared.piece.Piece.TheVariants.{Space, LineEnd, Comment, Lexeme}
use Rattle.scald_lex.specs.declared.token.TokenKind.TheVariants.{Word, Number, Name, Arrow, Symbol}
use Rattle.scald_lex.specs.Bytes.{line_end, quote, is_space, is_name_byte, is_comment_byte, is_symbol, value_of}
use Rattle.scald_lex.specs.Piece.{begins_with, greatest_number, word_at, number_at, name_behind, dash_before, piece_at}
use Rattle.scald_lex.proofs.Fronts.{unlike, further, passes_one, past}

pub record IsOnLine (count : ℕ) (rest : List ℕ) : Type 0 where
  pub some : 0 < count
  pub on_line : count ≤ prefix_len is_comment_byte rest

abbrev pub Advances : List ℕ → Piece → Type 0
Advances rest Space = IsOnLine 1 rest
Advances rest LineEnd = begins_with line_end rest ≡ true
Advances rest (Comment count) = IsOnLine count rest
Advances rest (Lexeme kind count) = IsOnLine count rest

-- What holds of each piece that may stand in front holds of the one that does.
pub chosen : (P : Option Piece → Type 0) (b : Bool) (x y : Option Piece) → (b ≡ true → P x) → (b ≡ false → P y) → P (cond b x y)
chosen P true x y h k = h refl
chosen P false x y h k = k refl

-- what is known of a first byte that is no letter, space, end of a line, digit, quote or dash
pub record IsOther (b : ℕ) : Type 0 where
  pub letter : is_letter b ≡ false
  pub space : is_space b ≡ false
  pub ended : (b == line_end) ≡ false
  pub digit : is_digit b ≡ false
  pub quoted : (b == quote) ≡ false
  pub dash : (b == 45) ≡ false

pub by_first_byte : (P : Option Piece → Type 0) (b : ℕ) (bs : List ℕ) →
    (is_letter b ≡ true → P (word_at (b ∷ bs))) → (is_space b ≡ true → P (Some Space)) → ((b == line_end) ≡ true → P (Some LineEnd)) →
    (is_digit b ≡ true → P (number_at (b ∷ bs))) → ((b == quote) ≡ true → P (name_behind bs)) → ((b == 45) ≡ true → P (Some (dash_before bs))) →
    (IsOther b → is_symbol b ≡ true → P (Some (Lexeme (Symbol b) 1))) → (IsOther b → is_symbol b ≡ false → P None) → P (piece_at (b ∷ bs))
unfolding piece_at
by_first_byte P b bs on_letter on_space on_end on_digit on_quote on_dash on_symbol on_none =
    let rest = b ∷ bs in
    let other : Option Piece = None in
    let symbol = cond (is_symbol b) (Some (Lexeme (Symbol b) 1)) other in
    let dash = cond (b == 45) (Some (dash_before bs)) symbol in
    let name = cond (b == quote) (name_behind bs) dash in
    let number = cond (is_digit b) (number_at rest) name in
    let line = cond (b == line_end) (Some LineEnd) number in
    let space = cond (is_space b) (Some Space) line in
    chosen P (is_letter b) (word_at rest) space on_letter (λ (l : is_letter b ≡ false).
    chosen P (is_space b) (Some Space) line on_space (λ (s : is_space b ≡ false).
    chosen P (b == line_end) (Some LineEnd) number on_end (λ (e : (b == line_end) ≡ false).
    chosen P (is_digit b) (number_at rest) name on_digit (λ (d : is_digit b ≡ false).
    chosen P (b == quote) (name_behind bs) dash on_quote (λ (q : (b == quote) ≡ false).
    chosen P (b == 45) (Some (dash_before bs)) symbol on_dash (λ (h : (b == 45) ≡ false).
    let is : IsOther b = record { letter = l; space = s; ended = e; digit = d; quoted = q; dash = h } in
    chosen P (is_symbol b) (Some (Lexeme (Symbol b) 1)) other (on_symbol is) (on_none is)))))))

pub dash_chosen : (P : Piece → Type 0) (b : Bool) (x y : Piece) → (b ≡ true → P x) → (b ≡ false → P y) → P (cond b x y)
dash_chosen P true x y h k = h refl
dash_chosen P false x y h k = k refl

abbrev Does : List ℕ → Option Piece → Type 0
Does rest None = Unit {0}
Does rest (Some p) = Advances rest p

pub front_some : (p : ℕ → Bool) (b : ℕ) (bs : List ℕ) → p b ≡ true → 0 < prefix_len p (b ∷ bs)
front_some p b bs h = rw h (omega arith)

pub letter_in_word : (b : ℕ) → is_letter b ≡ true → is_word_byte b ≡ true
letter_in_word b h = rw h refl

word_does : (b : ℕ) (bs : List ℕ) → is_letter b ≡ true → Does (b ∷ bs) (word_at (b ∷ bs))
unfolding word_at
word_does b bs h =
    let count = prefix_len is_word_byte (b ∷ bs) in
    chosen (Does (b ∷ bs)) (nat_le count longest_word) (Some (Lexeme Word count)) None
    (λ _. record { some = front_some is_word_byte b bs (letter_in_word b h); on_line = further is_word_byte is_comment_byte (unlike is_word_byte line_end refl) (b ∷ bs) }) (λ _. tt)

number_does : (b : ℕ) (bs : List ℕ) → is_digit b ≡ true → Does (b ∷ bs) (number_at (b ∷ bs))
unfolding number_at
number_does b bs h =
    let count = prefix_len is_digit (b ∷ bs) in
    let value = value_of (take count (b ∷ bs)) in
    chosen (Does (b ∷ bs)) (nat_le value greatest_number) (Some (Lexeme (Number (pos value)) count)) None
    (λ _. record { some = front_some is_digit b bs h; on_line = further is_digit is_comment_byte (unlike is_digit line_end refl) (b ∷ bs) }) (λ _. tt)

longer : (b : ℕ) (bs : List ℕ) (n : ℕ) → is_comment_byte b ≡ true → n ≤ prefix_len is_comment_byte bs → n + 1 ≤ prefix_len is_comment_byte (b ∷ bs)
longer b bs n h k = rw h (omega arith)

name_does : (b : ℕ) (bs : List ℕ) → is_comment_byte b ≡ true → Does (b ∷ bs) (name_behind bs)
unfolding name_behind
name_does b bs h =
    let count = prefix_len is_name_byte bs in
    chosen (Does (b ∷ bs)) (begins_with quote (drop count bs)) (Some (Lexeme Name (count + 2))) None
    (λ (closed : begins_with quote (drop count bs) ≡ true).
    let within : count < prefix_len is_comment_byte bs = past is_name_byte is_comment_byte quote (unlike is_name_byte line_end refl) refl bs closed in
    let all : count + 1 + 1 ≤ prefix_len is_comment_byte (b ∷ bs) = longer b bs (count + 1) h (omega arith) in
    record { some = omega arith; on_line = omega arith }) (λ _. tt)

dash_does : (b : ℕ) (bs : List ℕ) → is_comment_byte b ≡ true → Advances (b ∷ bs) (dash_before bs)
unfolding dash_before
dash_does b bs h =
    let far = prefix_len is_comment_byte bs in
    dash_chosen (Advances (b ∷ bs)) (begins_with 45 bs) (Comment (1 + far)) (cond (begins_with 62 bs) (Lexeme Arrow 2) (Lexeme (Symbol 45) 1))
    (λ _. let all : far + 1 ≤ prefix_len is_comment_byte (b ∷ bs) = longer b bs far h (omega arith) in record { some = omega arith; on_line = omega arith })
    (λ _. dash_chosen (Advances (b ∷ bs)) (begins_with 62 bs) (Lexeme Arrow 2) (Lexeme (Symbol 45) 1)
    (λ (tip : begins_with 62 bs ≡ true).
    let one : 0 < far = passes_one is_comment_byte 62 bs refl tip in
    let all : 1 + 1 ≤ prefix_len is_comment_byte (b ∷ bs) = longer b bs 1 h (omega arith) in record { some = omega arith; on_line = omega arith })
    (λ _. let all : 0 + 1 ≤ prefix_len is_comment_byte (b ∷ bs) = longer b bs 0 h (omega arith) in record { some = omega arith; on_line = omega arith }))

one_does : (b : ℕ) (bs : List ℕ) → is_comment_byte b ≡ true → IsOnLine 1 (b ∷ bs)
one_does b bs h = let all : 0 + 1 ≤ prefix_len is_comment_byte (b ∷ bs) = longer b bs 0 h (omega arith) in record { some = omega arith; on_line = omega arith }

does : (rest : List ℕ) → Does rest (piece_at rest)
unfolding piece_at
does [] = tt
does (b ∷ bs) = by_first_byte (Does (b ∷ bs)) b bs
    (λ h. word_does b bs h) (λ h. one_does b bs (unlike is_space line_end refl b h)) (λ h. h) (λ h. number_does b bs h)
    (λ h. name_does b bs (unlike (λ (a : ℕ). a == quote) line_end refl b h)) (λ h. dash_does b bs (unlike (λ (a : ℕ). a == 45) line_end refl b h))
    (λ _ h. one_does b bs (unlike is_symbol line_end refl b h)) (λ _ _. tt)

pub advances : (rest : List ℕ) (p : Piece) → piece_at rest ≡ Some p → Advances rest p
advances rest p e = subst (λ (o : Option Piece). Does rest o) e (does rest)
