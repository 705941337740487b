-- A token's slice is a text of its kind.
use Rattle.std.proofs.Common.{◌≡◌, ℕ, zero, suc, ◌+◌, ◌<◌, ◌≤◌, Bool, true, false, cond, nat_le, List, [], ◌∷◌, ◌++◌, take, drop, Option, Some, None, pos, refl, ap, sym, subst, ◌∙◌, arith, eqb-true}
use Rattle.std.specs.Prelude.{◌==◌}
use borrow.Author.Tests.{leb-true}
use Rattle.std.specs.List.{prefix_len, list_all}
use Rattle.std.proofs.lemmas.List.Folds.{length-prefix_len}
use Rattle.scald_base.specs.Word.{is_letter, is_digit, is_word_byte, longest_word, begins_word}
use Rattle.scald_lex.specs.declared.piece.Piece.{Piece}
use Rattle.scald_lex.specs.declared.piece.Piece.TheVariants.{Space, LineEnd, Comment, Lexeme}
use Rattle.scald_lex.specs.declared.token.TokenKind.TheVariants.{Word, Number, Name, Arrow, Symbol}
use Rattle.scald_lex.specs.Bytes.{quote, is_name_byte, is_comment_byte, value_of}
use Rattle.scald_lex.specs.Piece.{begins_with, greatest_number, word_at, number_at, name_behind, dash_before, piece_at}
use Rattle.scald_lex.specs.Laws.{Spells}
use Rattle.scald_lex.proofs.Pieces.{chosen, dash_chosen, by_first_byte, front_some, letter_in_word}

-- What the piece is spells its kind.
abbrev pub Spelt : List ℕ → Piece → Type 0
Spelt rest Space = Unit {0}
Spelt rest LineEnd = Unit {0}
Spelt rest (Comment count) = Unit {0}
Spelt rest (Lexeme kind count) = Spells kind (take count rest)

abbrev IsSpelt : List ℕ → Option Piece → Type 0
IsSpelt rest None = Unit {0}
IsSpelt rest (Some p) = Spelt rest p

taken_on : (n x : ℕ) (xs : List ℕ) → take (1 + n) (x ∷ xs) ≡ x ∷ take n xs
taken_on n x xs = ap (λ (m : ℕ). take m (x ∷ xs)) (let e : 1 + n ≡ suc n = omega arith in e)

all_step : (p : ℕ → Bool) (b : Bool) (x : ℕ) (xs : List ℕ) (n : ℕ) → p x ≡ b → list_all p (take n xs) ≡ true → list_all p (take (cond b (1 + n) 0) (x ∷ xs)) ≡ true
all_step p true x xs n h k = ap (list_all p) (taken_on n x xs) ∙ rw h k
all_step p false x xs n h k = refl

pub all_pass : (p : ℕ → Bool) (xs : List ℕ) → list_all p (take (prefix_len p xs) xs) ≡ true
all_pass p [] = refl
all_pass p (x ∷ xs) = all_step p (p x) x xs (prefix_len p xs) refl (all_pass p xs)

-- The front of a list that begins with a byte that passes.
front_is : (p : ℕ → Bool) (b : ℕ) (bs : List ℕ) → p b ≡ true → take (prefix_len p (b ∷ bs)) (b ∷ bs) ≡ b ∷ take (prefix_len p bs) bs
front_is p b bs h = rw h (taken_on (prefix_len p bs) b bs)

pub word_form : (b : ℕ) (bs : List ℕ) → is_letter b ≡ true → begins_word (take (prefix_len is_word_byte (b ∷ bs)) (b ∷ bs)) ≡ true
word_form b bs h = ap begins_word (front_is is_word_byte b bs (letter_in_word b h)) ∙ rw h (all_pass is_word_byte bs)

word_spelt : (b : ℕ) (bs : List ℕ) → is_letter b ≡ true → IsSpelt (b ∷ bs) (word_at (b ∷ bs))
unfolding word_at
word_spelt b bs h =
    let count = prefix_len is_word_byte (b ∷ bs) in
    chosen (IsSpelt (b ∷ bs)) (nat_le count longest_word) (Some (Lexeme Word count)) None
    (λ (t : nat_le count longest_word ≡ true).
    let short : count ≤ longest_word = leb-true count longest_word t in
    record { form = word_form b bs h; short = subst (λ (n : ℕ). n ≤ longest_word) (sym (length-prefix_len is_word_byte (b ∷ bs))) short }) (λ _. tt)

number_spelt : (b : ℕ) (bs : List ℕ) → is_digit b ≡ true → IsSpelt (b ∷ bs) (number_at (b ∷ bs))
unfolding number_at
number_spelt b bs h =
    let count = prefix_len is_digit (b ∷ bs) in
    let value = value_of (take count (b ∷ bs)) in
    chosen (IsSpelt (b ∷ bs)) (nat_le value greatest_number) (Some (Lexeme (Number (pos value)) count)) None
    (λ (t : nat_le value greatest_number ≡ true). (
      record {
        some = subst (λ (n : ℕ). 0 < n) (sym (length-prefix_len is_digit (b ∷ bs))) (front_some is_digit b bs h);
        digits = all_pass is_digit (b ∷ bs);
        fits = leb-true value greatest_number t;
      },
      refl,
    )) (λ _. tt)

pub closed : (q : ℕ) (xs : List ℕ) (n : ℕ) → begins_with q (drop n xs) ≡ true → take (suc n) xs ≡ take n xs ++ q ∷ []
closed q [] zero h = absurd cc
closed q [] (suc n) h = absurd cc
closed q (x ∷ xs) zero h = ap (λ (y : ℕ). y ∷ []) (eqb-true x q h)
closed q (x ∷ xs) (suc n) h = ap (λ (ys : List ℕ). x ∷ ys) (closed q xs n h)

name_spelt : (b : ℕ) (bs : List ℕ) → (b == quote) ≡ true → IsSpelt (b ∷ bs) (name_behind bs)
unfolding name_behind
name_spelt b bs h =
    let count = prefix_len is_name_byte bs in
    chosen (IsSpelt (b ∷ bs)) (begins_with quote (drop count bs)) (Some (Lexeme Name (count + 2))) None
    (λ (t : begins_with quote (drop count bs) ≡ true). record {
      inside = take count bs;
      marked = ap (λ (n : ℕ). take n (b ∷ bs)) (let e : count + 2 ≡ suc (suc count) = omega arith in e)
          ∙ ap (λ (ys : List ℕ). b ∷ ys) (closed quote bs count t) ∙ ap (λ (y : ℕ). y ∷ (take count bs ++ quote ∷ [])) (eqb-true b quote h);
      printable = all_pass is_name_byte bs;
    }) (λ _. tt)

arrow_text : (b : ℕ) (bs : List ℕ) → b ≡ 45 → begins_with 62 bs ≡ true → take 2 (b ∷ bs) ≡ 45 ∷ 62 ∷ []
arrow_text b [] e h = absurd cc
arrow_text b (c ∷ cs) e h = let f : c ≡ 62 = eqb-true c 62 h in cc

dash_spelt : (b : ℕ) (bs : List ℕ) → (b == 45) ≡ true → Spelt (b ∷ bs) (dash_before bs)
unfolding dash_before
dash_spelt b bs h =
    let far = prefix_len is_comment_byte bs in
    let is : b ≡ 45 = eqb-true b 45 h in
    dash_chosen (Spelt (b ∷ bs)) (begins_with 45 bs) (Comment (1 + far)) (cond (begins_with 62 bs) (Lexeme Arrow 2) (Lexeme (Symbol 45) 1)) (λ _. tt)
    (λ _. dash_chosen (Spelt (b ∷ bs)) (begins_with 62 bs) (Lexeme Arrow 2) (Lexeme (Symbol 45) 1)
    (λ (tip : begins_with 62 bs ≡ true). arrow_text b bs is tip)
    (λ _. (ap (λ (y : ℕ). y ∷ []) is, refl)))

each_spelt : (rest : List ℕ) → IsSpelt rest (piece_at rest)
unfolding piece_at
each_spelt [] = tt
each_spelt (b ∷ bs) = by_first_byte (IsSpelt (b ∷ bs)) b bs
    (λ h. word_spelt b bs h) (λ _. tt) (λ _. tt) (λ h. number_spelt b bs h) (λ h. name_spelt b bs h) (λ h. dash_spelt b bs h) (λ _ h. (refl, h)) (λ _ _. tt)

pub spelt : (rest : List ℕ) (p : Piece) → piece_at rest ≡ Some p → Spelt rest p
spelt rest p e = subst (λ (o : Option Piece). IsSpelt rest o) e (each_spelt rest)
