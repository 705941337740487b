-- The texts of single tokens.
use Rattle.std.proofs.Common.{◌≡◌, ℕ, ◌+◌, ◌/◌, ◌%◌, ◌<◌, ◌≤◌, ◌^◌, Bool, true, false, nat_le, List, [], ◌∷◌, ◌++◌, length, take, drop, Some, pos, decimal, refl, ap, ◌∙◌, arith, append_assoc, length-append}
use Rattle.std.specs.Prelude.{◌||◌, ◌==◌, codes}
use Rattle.std.specs.List.{list_all, prefix_len}
use Rattle.std.proofs.lemmas.Fmt.{decimal_by_steps}
use Rattle.std.proofs.lemmas.Bool.Decides.{nat_tests}
use Rattle.std.proofs.lemmas.List.Folds.{list_all-append}
use Rattle.std.proofs.Math.Seq.{take-append_seam, drop-append_seam}
use Rattle.std.proofs.lemmas.Bool.{and_parts, not-true}
use Rattle.scald_base.specs.Word.{is_letter, is_digit, is_word_byte, longest_word, IsWord}
use Rattle.scald_lex.specs.declared.token.TokenKind.TheVariants.{Word, Number, Name}
use Rattle.scald_lex.specs.declared.piece.Piece.TheVariants.{Lexeme}
use Rattle.scald_lex.specs.Bytes.{quote, is_space, is_name_byte, is_allowed, value_of}
use Rattle.scald_lex.specs.Piece.{begins_with, greatest_number, word_at, number_at, name_behind, piece_at}
use Rattle.drawing_grammar.proofs.Cutting.{Bare, lexes_one, stops, Spells, Closes}
use Rattle.scald_lex.proofs.Pieces.{letter_in_word}
use Rattle.scald_lex.proofs.Values.{value_after_more}

-- ---- fronts

-- A front of a list goes as far as its bytes pass.
pub prefix_over : (p : ℕ → Bool) (xs rest : List ℕ) → list_all p xs ≡ true → prefix_len p rest ≡ 0 → prefix_len p (xs ++ rest) ≡ length xs
prefix_over p [] rest h k = k
prefix_over p (x ∷ xs) rest h k = let a = and_parts (p x) (list_all p xs) h in rw a.0 (ap (λ (n : ℕ). 1 + n) (prefix_over p xs rest a.1 k) ∙ omega arith)

none_by : (p : ℕ → Bool) → ((b : ℕ) → p b ≡ true → is_word_byte b ≡ true) → (b : ℕ) (bs : List ℕ) (t : Bool) → p b ≡ t → is_word_byte b ≡ false → prefix_len p (b ∷ bs) ≡ 0
none_by p h b bs true e k = absurd (let x : is_word_byte b ≡ true = h b e in cc)
none_by p h b bs false e k = rw e refl

-- If no word goes on, nothing of a word stands.
pub none_at_stop : (p : ℕ → Bool) → ((b : ℕ) → p b ≡ true → is_word_byte b ≡ true) → (rest : List ℕ) → stops rest ≡ true → prefix_len p rest ≡ 0
none_at_stop p h [] k = refl
none_at_stop p h (b ∷ bs) k = none_by p h b bs (p b) refl (not-true (is_word_byte b) k)

pub all_by : (p q : ℕ → Bool) → ((b : ℕ) → p b ≡ true → q b ≡ true) → (xs : List ℕ) → list_all p xs ≡ true → list_all q xs ≡ true
all_by p q h [] k = refl
all_by p q h (x ∷ xs) k = let a = and_parts (p x) (list_all p xs) k in rw (h x a.0, all_by p q h xs a.1) refl

-- ---- kinds of bytes

digit_in_word : (b : ℕ) → is_digit b ≡ true → is_word_byte b ≡ true
digit_in_word b h = by_letter (is_letter b) (is_digit b) (b == 95) h
  where
    by_letter : (l d u : Bool) → d ≡ true → (l || d || u) ≡ true
    by_letter true d u h = refl
    by_letter false true u h = refl
    by_letter false false u h = absurd cc

word_is_allowed : (b : ℕ) → is_word_byte b ≡ true → is_allowed b ≡ true
word_is_allowed b h = grind (arith, nat_tests)

digit_is_no_letter : (b : ℕ) → is_digit b ≡ true → is_letter b ≡ false
digit_is_no_letter b h = grind (arith, nat_tests)

digit_is_no_space : (b : ℕ) → is_digit b ≡ true → is_space b ≡ false
digit_is_no_space b h = grind (arith, nat_tests)

digit_is_no_line_end : (b : ℕ) → is_digit b ≡ true → (b == 10) ≡ false
digit_is_no_line_end b h = grind (arith, nat_tests)

-- ---- words

abbrev pub word : List ℕ → Bare
word text = record { kind = Word; text = text }

piece_of_letter : (b : ℕ) (bs : List ℕ) → is_letter b ≡ true → piece_at (b ∷ bs) ≡ word_at (b ∷ bs)
unfolding piece_at
piece_of_letter b bs h = rw h refl

word_of_length : (s : List ℕ) (n : ℕ) → prefix_len is_word_byte s ≡ n → nat_le n longest_word ≡ true → word_at s ≡ Some (Lexeme Word n)
unfolding word_at
word_of_length s n e h = rw (e, h) refl

word_piece : (b : ℕ) (bs rest : List ℕ) → is_letter b ≡ true → list_all is_word_byte bs ≡ true →
    length (b ∷ bs) ≤ 64 → stops rest ≡ true → piece_at ((b ∷ bs) ++ rest) ≡ Some (Lexeme Word (length (b ∷ bs)))
word_piece b bs rest l w short h =
    let fits : nat_le (length (b ∷ bs)) 64 ≡ true = grind (arith, nat_tests) in
    piece_of_letter b (bs ++ rest) l
    ∙ word_of_length ((b ∷ bs) ++ rest) (length (b ∷ bs)) (prefix_over is_word_byte (b ∷ bs) rest (rw (letter_in_word b l, w) refl) (none_at_stop is_word_byte (λ x k. k) rest h)) fits

pub word_spells : (text : List ℕ) → IsWord text → Spells text (word text ∷ [])
word_spells [] is = absurd (let h = is.form in cc)
word_spells (b ∷ bs) is =
    let a = and_parts (is_letter b) (list_all is_word_byte bs) is.form in
    record {
      allowed = all_by is_word_byte is_allowed word_is_allowed (b ∷ bs) (rw (letter_in_word b a.0, a.1) refl);
      lexes = λ rest h. lexes_one (b ∷ bs) rest Word (word_piece b bs rest a.0 a.1 is.short h);
    }

-- ---- numbers

-- what is known of the digits of a number
pub record IsNumeral (n : ℕ) (digits : List ℕ) : Type 0 where
  pub all : list_all is_digit digits ≡ true
  pub some : 0 < length digits
  pub value : value_of digits ≡ n

one_digit : (n : ℕ) → n < 10 → is_digit (48 + n) ≡ true
one_digit n h = grind (arith, nat_tests)

one_numeral : (n : ℕ) → n < 10 → IsNumeral n ((48 + n) ∷ [])
one_numeral n h = record { all = rw (one_digit n h) refl; some = omega arith; value = omega arith }

more_numeral : (n : ℕ) (ds : List ℕ) → 10 ≤ n → IsNumeral (n / 10) ds → IsNumeral n (ds ++ ((48 + n % 10) ∷ []))
more_numeral n ds h k = record {
  all = rw (list_all-append is_digit ds ((48 + n % 10) ∷ []), k.all, one_digit (n % 10) (omega arith)) refl;
  some = omega (arith, k.some, length-append ds ((48 + n % 10) ∷ []));
  value = let v = k.value in let e = value_after_more 0 ds (48 + n % 10) in omega arith;
}

pub is_numeral : (n : ℕ) → n < 2 ^ 64 → IsNumeral n (decimal n)
is_numeral n h = decimal_by_steps IsNumeral one_numeral more_numeral n h

piece_of_digit : (b : ℕ) (bs : List ℕ) → is_digit b ≡ true → piece_at (b ∷ bs) ≡ number_at (b ∷ bs)
unfolding piece_at
piece_of_digit b bs h = rw (digit_is_no_letter b h, digit_is_no_space b h, digit_is_no_line_end b h, h) refl

number_of_length : (s : List ℕ) (n k : ℕ) → prefix_len is_digit s ≡ k → value_of (take k s) ≡ n → nat_le n greatest_number ≡ true → number_at s ≡ Some (Lexeme (Number (pos n)) k)
unfolding number_at
number_of_length s n k e v h = rw (e, v, h) refl

number_piece : (n b : ℕ) (bs rest : List ℕ) → list_all is_digit (b ∷ bs) ≡ true → value_of (b ∷ bs) ≡ n →
    n ≤ greatest_number → stops rest ≡ true → piece_at ((b ∷ bs) ++ rest) ≡ Some (Lexeme (Number (pos n)) (length (b ∷ bs)))
number_piece n b bs rest all v small h =
    let fits : nat_le n greatest_number ≡ true = grind (arith, nat_tests) in
    piece_of_digit b (bs ++ rest) (and_parts (is_digit b) (list_all is_digit bs) all).0
    ∙ number_of_length ((b ∷ bs) ++ rest) n (length (b ∷ bs))
    (prefix_over is_digit (b ∷ bs) rest all (none_at_stop is_digit digit_in_word rest h))
    (ap value_of (take-append_seam (b ∷ bs) rest) ∙ v) fits

abbrev pub number : ℕ → Bare
number n = record { kind = Number (pos n); text = decimal n }

digits_spell : (n : ℕ) (digits : List ℕ) → IsNumeral n digits → n ≤ greatest_number → Spells digits (record { kind = Number (pos n); text = digits } ∷ [])
digits_spell n [] is small = absurd (omega (arith, is.some))
digits_spell n (b ∷ bs) is small = record {
  allowed = all_by is_digit is_allowed (λ x k. word_is_allowed x (digit_in_word x k)) (b ∷ bs) is.all;
  lexes = λ rest h. lexes_one (b ∷ bs) rest (Number (pos n)) (number_piece n b bs rest is.all is.value small h);
}

pub number_spells : (n : ℕ) → n ≤ greatest_number → Spells (decimal n) (number n ∷ [])
number_spells n small = digits_spell n (decimal n) (is_numeral n (omega arith)) small

-- ---- names

-- a name in its quotes
abbrev pub name : List ℕ → Bare
name text = record { kind = Name; text = codes "\"" ++ text ++ codes "\"" }

name_is_allowed : (b : ℕ) → is_name_byte b ≡ true → is_allowed b ≡ true
name_is_allowed b h = grind (arith, nat_tests)

name_of_length : (s : List ℕ) (n : ℕ) → prefix_len is_name_byte s ≡ n → begins_with quote (drop n s) ≡ true → name_behind s ≡ Some (Lexeme Name (n + 2))
unfolding name_behind
name_of_length s n e h = rw (e, h) refl

piece_of_quote : (bs : List ℕ) → piece_at (34 ∷ bs) ≡ name_behind bs
unfolding piece_at
piece_of_quote bs = refl

name_piece : (text rest : List ℕ) → list_all is_name_byte text ≡ true → piece_at ((34 ∷ (text ++ 34 ∷ [])) ++ rest) ≡ Some (Lexeme Name (length (34 ∷ (text ++ 34 ∷ []))))
name_piece text rest h =
    let behind : (text ++ 34 ∷ []) ++ rest ≡ text ++ 34 ∷ rest = append_assoc text (34 ∷ []) rest in
    let far : prefix_len is_name_byte (text ++ 34 ∷ rest) ≡ length text = prefix_over is_name_byte text (34 ∷ rest) h refl in
    let next : begins_with quote (drop (length text) (text ++ 34 ∷ rest)) ≡ true = ap (begins_with quote) (drop-append_seam text (34 ∷ rest)) in
    let count : length text + 2 ≡ length (34 ∷ (text ++ 34 ∷ [])) = omega (arith, length-append text (34 ∷ [])) in
    piece_of_quote ((text ++ 34 ∷ []) ++ rest)
    ∙ ap name_behind behind ∙ name_of_length (text ++ 34 ∷ rest) (length text) far next
    ∙ ap (λ (n : ℕ). Some (Lexeme Name n)) count

pub name_closes : (text : List ℕ) → list_all is_name_byte text ≡ true → Closes (codes "\"" ++ text ++ codes "\"") (name text ∷ [])
name_closes text h = record {
  allowed = rw (list_all-append is_allowed text (34 ∷ []), all_by is_name_byte is_allowed name_is_allowed text h) refl;
  lexes = λ rest. lexes_one (34 ∷ (text ++ 34 ∷ [])) rest Name (name_piece text rest h);
}
