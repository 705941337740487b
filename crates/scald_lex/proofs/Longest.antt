-- The token in front is the longest one.
use Rattle.std.proofs.Common.{◌≡◌, ℕ, zero, suc, ◌+◌, ◌<◌, ◌≤◌, Bool, true, false, ◌&&◌, cond, nat_le, List, [], ◌∷◌, ◌++◌, length, take, drop, Option, Some, None, pos, refl, ap, subst, ◌∙◌, arith, eqb-true, eq-eqb}
use Rattle.std.specs.Prelude.{◌==◌}
use Rattle.std.proofs.lemmas.Bool.Decides.{nat_tests}
use Rattle.std.specs.List.{prefix_len, list_all}
use Rattle.scald_base.specs.Word.{is_letter, is_digit, is_word_byte, longest_word, begins_word}
use Rattle.scald_lex.specs.declared.piece.Piece.{Piece}
use Rattle.scald_lex.specs.declared.piece.Piece.TheVariants.{Space, LineEnd, Comment, Lexeme}
use Rattle.scald_lex.specs.declared.token.TokenKind.{TokenKind}
use Rattle.scald_lex.specs.declared.token.TokenKind.TheVariants.{Word, Number, Name, Arrow, Symbol, End}
use Rattle.scald_lex.specs.Bytes.{quote, is_name_byte, is_comment_byte, value_of}
use Rattle.scald_lex.specs.Piece.{begins_with, greatest_number, word_at, number_at, name_behind, dash_before, piece_at}
use Rattle.scald_lex.specs.Laws.{Spells, TokensAreLongest}
use Rattle.scald_lex.proofs.Pieces.{chosen, dash_chosen, by_first_byte, IsOther, letter_in_word, advances}

-- ---- how far a text of a kind may go

pub both : (a b : Bool) → (a && b) ≡ true → (a ≡ true) × (b ≡ true)
both true true h = (refl, refl)
both true false h = absurd cc
both false b h = absurd cc

-- Bytes that all pass are of the front that does.
pub passes_all : (p : ℕ → Bool) (xs : List ℕ) (n : ℕ) → n ≤ length xs → list_all p (take n xs) ≡ true → n ≤ prefix_len p xs
passes_all p xs zero h k = omega arith
passes_all p [] (suc n) h k = absurd (omega arith)
passes_all p (x ∷ xs) (suc n) h k =
    let parts = both (p x) (list_all p (take n xs)) k in
    let rest : n ≤ prefix_len p xs = passes_all p xs n (omega arith) parts.1 in
    rw parts.0 (omega arith)

pub word_bytes : (xs : List ℕ) → begins_word xs ≡ true → list_all is_word_byte xs ≡ true
word_bytes [] h = refl
word_bytes (x ∷ xs) h = let parts = both (is_letter x) (list_all is_word_byte xs) h in rw (letter_in_word x parts.0, parts.1) refl

-- A name ends at its first quote.
name_ends : (bs inside : List ℕ) (n : ℕ) → n ≤ length bs → take n bs ≡ inside ++ quote ∷ [] → list_all is_name_byte inside ≡ true → n ≤ prefix_len is_name_byte bs + 1
name_ends bs inside zero h e k = omega arith
name_ends [] inside (suc n) h e k = absurd (omega arith)
name_ends (x ∷ xs) [] (suc zero) h e k = omega arith
name_ends (x ∷ []) [] (suc (suc n)) h e k = absurd (omega arith)
name_ends (x ∷ y ∷ xs) [] (suc (suc n)) h e k = absurd cc
name_ends (x ∷ xs) (i ∷ is) (suc n) h e k =
    let parts = both (is_name_byte i) (list_all is_name_byte is) k in
    let same : x ≡ i = cc in
    let rest : take n xs ≡ is ++ quote ∷ [] = cc in
    let far : n ≤ prefix_len is_name_byte xs + 1 = name_ends xs is n (omega arith) rest parts.1 in
    let passes : is_name_byte x ≡ true = ap is_name_byte same ∙ parts.0 in
    rw passes (omega arith)

-- ---- what a text of two bytes and more begins with

abbrev pub Begins : TokenKind → ℕ → Type 0
Begins Word b = is_letter b ≡ true
Begins (Number n) b = is_digit b ≡ true
Begins Name b = b ≡ quote
Begins Arrow b = b ≡ 45
Begins (Symbol s) b = ⊥
Begins End b = ⊥

pub begins : (kind : TokenKind) (b c : ℕ) (xs : List ℕ) → Spells kind (b ∷ c ∷ xs) → Begins kind b
begins Word b c xs is = (both (is_letter b) (list_all is_word_byte (c ∷ xs)) is.form).0
begins (Number n) b c xs is = (both (is_digit b) (list_all is_digit (c ∷ xs)) is.0.digits).0
begins Name b c xs is = let e = is.marked in cc
begins Arrow b c xs is = cc
begins (Symbol s) b c xs is = let e = is.0 in absurd cc
begins End b c xs is = absurd cc

apart : (p : ℕ → Bool) (b k : ℕ) → p b ≡ true → b ≡ k → p k ≡ false → ⊥
apart p b k h e f = let g : p b ≡ p k = ap p e in absurd cc

no_letter_digit : (b : ℕ) → is_letter b ≡ true → is_digit b ≡ true → ⊥
no_letter_digit b h k = grind (arith, nat_tests)

-- ---- each piece

-- No text of so many bytes is a token, if they are more than the piece has.
abbrev AtMost : ℕ → ℕ → List ℕ → ℕ → Piece → Type 0
AtMost b c cs n (Lexeme kind count) = (other : TokenKind) → count < suc (suc n) → n ≤ length cs → Spells other (b ∷ c ∷ take n cs) → ⊥
AtMost b c cs n Space = Unit {0}
AtMost b c cs n LineEnd = Unit {0}
AtMost b c cs n (Comment count) = Unit {0}

abbrev EachAtMost : ℕ → ℕ → List ℕ → ℕ → Option Piece → Type 0
EachAtMost b c cs n None = Unit {0}
EachAtMost b c cs n (Some p) = AtMost b c cs n p

word_longest : (b c : ℕ) (cs : List ℕ) (n : ℕ) → is_letter b ≡ true → (other : TokenKind) → prefix_len is_word_byte (b ∷ c ∷ cs) < suc (suc n) → n ≤ length cs → Spells other (b ∷ c ∷ take n cs) → ⊥
word_longest b c cs n l Word h k is =
    let far : suc (suc n) ≤ prefix_len is_word_byte (b ∷ c ∷ cs) = passes_all is_word_byte (b ∷ c ∷ cs) (suc (suc n)) (omega arith) (word_bytes (b ∷ c ∷ take n cs) is.form) in omega arith
word_longest b c cs n l (Number v) h k is = no_letter_digit b l (begins (Number v) b c (take n cs) is)
word_longest b c cs n l Name h k is = apart is_letter b quote l (begins Name b c (take n cs) is) refl
word_longest b c cs n l Arrow h k is = apart is_letter b 45 l (begins Arrow b c (take n cs) is) refl
word_longest b c cs n l (Symbol s) h k is = begins (Symbol s) b c (take n cs) is
word_longest b c cs n l End h k is = begins End b c (take n cs) is

number_longest : (b c : ℕ) (cs : List ℕ) (n : ℕ) → is_digit b ≡ true → (other : TokenKind) → prefix_len is_digit (b ∷ c ∷ cs) < suc (suc n) → n ≤ length cs → Spells other (b ∷ c ∷ take n cs) → ⊥
number_longest b c cs n d Word h k is = no_letter_digit b (begins Word b c (take n cs) is) d
number_longest b c cs n d (Number v) h k is =
    let far : suc (suc n) ≤ prefix_len is_digit (b ∷ c ∷ cs) = passes_all is_digit (b ∷ c ∷ cs) (suc (suc n)) (omega arith) is.0.digits in omega arith
number_longest b c cs n d Name h k is = apart is_digit b quote d (begins Name b c (take n cs) is) refl
number_longest b c cs n d Arrow h k is = apart is_digit b 45 d (begins Arrow b c (take n cs) is) refl
number_longest b c cs n d (Symbol s) h k is = begins (Symbol s) b c (take n cs) is
number_longest b c cs n d End h k is = begins End b c (take n cs) is

abbrev is_byte : ℕ → ℕ → Bool
is_byte k b = b == k

name_longest : (b c : ℕ) (cs : List ℕ) (n : ℕ) → (b == quote) ≡ true → (other : TokenKind) → prefix_len is_name_byte (c ∷ cs) + 2 < suc (suc n) → n ≤ length cs → Spells other (b ∷ c ∷ take n cs) → ⊥
name_longest b c cs n q Word h k is = apart is_letter b quote (begins Word b c (take n cs) is) (eqb-true b quote q) refl
name_longest b c cs n q (Number v) h k is = apart is_digit b quote (begins (Number v) b c (take n cs) is) (eqb-true b quote q) refl
name_longest b c cs n q Name h k is =
    let e = is.marked in
    let rest : take (suc n) (c ∷ cs) ≡ is.inside ++ quote ∷ [] = cc in
    let far : suc n ≤ prefix_len is_name_byte (c ∷ cs) + 1 = name_ends (c ∷ cs) is.inside (suc n) (omega arith) rest is.printable in omega arith
name_longest b c cs n q Arrow h k is = apart (is_byte quote) b 45 q (begins Arrow b c (take n cs) is) refl
name_longest b c cs n q (Symbol s) h k is = begins (Symbol s) b c (take n cs) is
name_longest b c cs n q End h k is = begins End b c (take n cs) is

arrow_ends : (b c : ℕ) (cs : List ℕ) (n : ℕ) → n ≤ length cs → b ∷ c ∷ take n cs ≡ 45 ∷ 62 ∷ [] → (n ≡ 0) × (c ≡ 62)
arrow_ends b c cs zero h e = (refl, cc)
arrow_ends b c [] (suc n) h e = absurd (omega arith)
arrow_ends b c (x ∷ xs) (suc n) h e = absurd cc

dash_longest : (b c : ℕ) (cs : List ℕ) (n : ℕ) → (b == 45) ≡ true → (other : TokenKind) → (Spells Arrow (b ∷ c ∷ take n cs) → ⊥) → Spells other (b ∷ c ∷ take n cs) → ⊥
dash_longest b c cs n d Word tip is = apart is_letter b 45 (begins Word b c (take n cs) is) (eqb-true b 45 d) refl
dash_longest b c cs n d (Number v) tip is = apart is_digit b 45 (begins (Number v) b c (take n cs) is) (eqb-true b 45 d) refl
dash_longest b c cs n d Name tip is = apart (is_byte 45) b quote d (begins Name b c (take n cs) is) refl
dash_longest b c cs n d Arrow tip is = tip is
dash_longest b c cs n d (Symbol s) tip is = begins (Symbol s) b c (take n cs) is
dash_longest b c cs n d End tip is = begins End b c (take n cs) is

pub not_byte : (b k : ℕ) → (b == k) ≡ false → b ≡ k → ⊥
not_byte b k f e = let t : (b == k) ≡ true = eq-eqb b k e in absurd cc

other_longest : (b c : ℕ) (cs : List ℕ) (n : ℕ) → IsOther b → (other : TokenKind) → Spells other (b ∷ c ∷ take n cs) → ⊥
other_longest b c cs n o Word is = let t = begins Word b c (take n cs) is in let f = o.letter in absurd cc
other_longest b c cs n o (Number v) is = let t = begins (Number v) b c (take n cs) is in let f = o.digit in absurd cc
other_longest b c cs n o Name is = not_byte b quote o.quoted (begins Name b c (take n cs) is)
other_longest b c cs n o Arrow is = not_byte b 45 o.dash (begins Arrow b c (take n cs) is)
other_longest b c cs n o (Symbol s) is = begins (Symbol s) b c (take n cs) is
other_longest b c cs n o End is = begins End b c (take n cs) is

-- ---- and so the piece in front

each_word : (b c : ℕ) (cs : List ℕ) (n : ℕ) → is_letter b ≡ true → EachAtMost b c cs n (word_at (b ∷ c ∷ cs))
unfolding word_at
each_word b c cs n l =
    let count = prefix_len is_word_byte (b ∷ c ∷ cs) in
    chosen (EachAtMost b c cs n) (nat_le count longest_word) (Some (Lexeme Word count)) None (λ _. word_longest b c cs n l) (λ _. tt)

each_number : (b c : ℕ) (cs : List ℕ) (n : ℕ) → is_digit b ≡ true → EachAtMost b c cs n (number_at (b ∷ c ∷ cs))
unfolding number_at
each_number b c cs n d =
    let count = prefix_len is_digit (b ∷ c ∷ cs) in
    let value = value_of (take count (b ∷ c ∷ cs)) in
    chosen (EachAtMost b c cs n) (nat_le value greatest_number) (Some (Lexeme (Number (pos value)) count)) None (λ _. number_longest b c cs n d) (λ _. tt)

each_name : (b c : ℕ) (cs : List ℕ) (n : ℕ) → (b == quote) ≡ true → EachAtMost b c cs n (name_behind (c ∷ cs))
unfolding name_behind
each_name b c cs n q =
    let count = prefix_len is_name_byte (c ∷ cs) in
    chosen (EachAtMost b c cs n) (begins_with quote (drop count (c ∷ cs))) (Some (Lexeme Name (count + 2))) None (λ _. name_longest b c cs n q) (λ _. tt)

each_dash : (b c : ℕ) (cs : List ℕ) (n : ℕ) → (b == 45) ≡ true → AtMost b c cs n (dash_before (c ∷ cs))
unfolding dash_before
each_dash b c cs n d =
    let bs = c ∷ cs in
    let far = prefix_len is_comment_byte bs in
    dash_chosen (AtMost b c cs n) (begins_with 45 bs) (Comment (1 + far)) (cond (begins_with 62 bs) (Lexeme Arrow 2) (Lexeme (Symbol 45) 1)) (λ _. tt)
    (λ _. dash_chosen (AtMost b c cs n) (begins_with 62 bs) (Lexeme Arrow 2) (Lexeme (Symbol 45) 1)
    (λ _ other h k is. dash_longest b c cs n d other (λ (e : Spells Arrow (b ∷ c ∷ take n cs)). let none = (arrow_ends b c cs n k e).0 in omega arith) is)
    (λ (none : begins_with 62 bs ≡ false) other h k is. dash_longest b c cs n d other (λ (e : Spells Arrow (b ∷ c ∷ take n cs)). not_byte c 62 none (arrow_ends b c cs n k e).1) is))

each : (b c : ℕ) (cs : List ℕ) (n : ℕ) → EachAtMost b c cs n (piece_at (b ∷ c ∷ cs))
each b c cs n = by_first_byte (EachAtMost b c cs n) b (c ∷ cs)
    (λ l. each_word b c cs n l) (λ _. tt) (λ _. tt) (λ d. each_number b c cs n d) (λ q. each_name b c cs n q) (λ d. each_dash b c cs n d)
    (λ o _ other h k is. other_longest b c cs n o other is) (λ _ _. tt)

pub longest : TokensAreLongest
longest [] kind count e other more h within is = absurd (omega arith)
longest (b ∷ bs) kind count e other zero h within is = absurd (omega arith)
longest (b ∷ bs) kind count e other (suc zero) h within is = let some = (advances (b ∷ bs) (Lexeme kind count) e).some in absurd (omega arith)
longest (b ∷ []) kind count e other (suc (suc n)) h within is = absurd (omega arith)
longest (b ∷ c ∷ cs) kind count e other (suc (suc n)) h within is =
    subst (λ (o : Option Piece). EachAtMost b c cs n o) e (each b c cs n) other h (omega arith) is
