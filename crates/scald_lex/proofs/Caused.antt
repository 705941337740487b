-- No token begins exactly if there is a cause of refusal.
use Rattle.std.proofs.Common.{◌≡◌, ℕ, suc, ◌+◌, ◌-◌, ◌*◌, ◌<◌, ◌≤◌, Bool, true, false, ◌||◌, cond, nat_le, List, [], ◌∷◌, ◌++◌, length, get_or, take, drop, Option, Some, None, pos, refl, ap, sym, subst, ◌∙◌, arith, length-drop, eqb-true, eq-eqb}
use Rattle.std.specs.Prelude.{◌==◌, codes}
use Rattle.std.specs.List.{prefix_len, list_all}
use Rattle.std.proofs.Math.Seq.{drop-append_seam, take-append-add}
use Rattle.std.proofs.lemmas.Bool.{leb-false, lt-leb}
use Rattle.std.proofs.lemmas.List.{take-append-drop, get_or-drop}
use Rattle.std.proofs.lemmas.List.Folds.{length-prefix_len}
use Rattle.std.proofs.lemmas.List.Sums.{prefix_len_stops}
use Rattle.scald_base.specs.Word.{is_letter, is_digit, is_word_byte, longest_word, begins_word}
use Rattle.scald_lex.specs.declared.piece.Piece.{Piece}
use Rattle.scald_lex.specs.declared.piece.Piece.TheVariants.{Space, LineEnd, Comment, Lexeme}
use Rattle.scald_lex.specs.declared.token.TokenKind.TheVariants.{Word, Number, Name, Arrow, Symbol}
use Rattle.scald_lex.specs.Bytes.{quote, is_space, is_allowed, is_name_byte, is_comment_byte, is_symbol, value_after, value_of}
use Rattle.scald_lex.specs.Piece.{begins_with, greatest_number, word_at, number_at, name_behind, dash_before, piece_at}
use Rattle.scald_lex.specs.Tokens.{IsAllowed}
use Rattle.scald_lex.specs.Between.{is_blank}
use Rattle.scald_lex.specs.Causes.{BreaksOff, is_stray, HasCause, open_name, long_word, large_number, stray_byte}
use Rattle.scald_lex.proofs.Cuts.{begins_at}
use Rattle.scald_lex.proofs.Longest.{both, word_bytes}
use Rattle.scald_lex.proofs.OneOf.{one_of, left_stray, left_break, digit_alone}
use Rattle.scald_lex.proofs.Pieces.{chosen, dash_chosen, by_first_byte, front_some}
use Rattle.scald_lex.proofs.Spelt.{all_pass, word_form}

-- ---- if there is a cause, nothing begins

-- how far a front of bytes that pass goes
front_over : (p : ℕ → Bool) (xs ys : List ℕ) → list_all p xs ≡ true → prefix_len p ys ≡ 0 →
    prefix_len p (xs ++ ys) ≡ length xs
front_over p [] ys h none = none
front_over p (x ∷ xs) ys h none =
    let parts = both (p x) (list_all p xs) h in
    let rest : prefix_len p (xs ++ ys) ≡ length xs = front_over p xs ys parts.1 none in
    rw parts.0 (omega arith)

front_past : (p : ℕ → Bool) (xs ys : List ℕ) → list_all p xs ≡ true →
    length xs ≤ prefix_len p (xs ++ ys)
front_past p [] ys h = omega arith
front_past p (x ∷ xs) ys h =
    let parts = both (p x) (list_all p xs) h in
    let rest : length xs ≤ prefix_len p (xs ++ ys) = front_past p xs ys parts.1 in
    rw parts.0 (omega arith)

stops_at_break : (behind : List ℕ) → BreaksOff behind → prefix_len is_name_byte behind ≡ 0
stops_at_break [] h = refl
stops_at_break (b ∷ bs) h = let none : is_name_byte b ≡ false =
    one_of (λ (c : ℕ). is_name_byte c ≡ false) b (9 ∷ 10 ∷ 13 ∷ []) (refl, (refl, (refl, tt))) h in
    rw none refl

no_quote : (behind : List ℕ) → BreaksOff behind → begins_with quote behind ≡ false
no_quote [] h = refl
no_quote (b ∷ bs) h = one_of (λ (c : ℕ). (c == quote) ≡ false) b (9 ∷ 10 ∷ 13 ∷ [])
    (refl, (refl, (refl, tt))) h

open_none : (inside behind : List ℕ) → list_all is_name_byte inside ≡ true → BreaksOff behind →
    piece_at (34 ∷ (inside ++ behind)) ≡ None
unfolding piece_at name_behind
open_none inside behind h breaks =
    let xs = inside ++ behind in
    let count : prefix_len is_name_byte xs ≡ length inside =
    front_over is_name_byte inside behind h (stops_at_break behind breaks) in
    let rest : drop (prefix_len is_name_byte xs) xs ≡ behind =
    ap (λ (n : ℕ). drop n xs) count ∙ drop-append_seam inside behind in
    let closed : begins_with quote (drop (prefix_len is_name_byte xs) xs) ≡ false =
    ap (begins_with quote) rest ∙ no_quote behind breaks in
    rw closed refl

long_none : (word behind : List ℕ) → begins_word word ≡ true → 64 < length word →
    piece_at (word ++ behind) ≡ None
unfolding piece_at word_at
long_none [] behind form long = absurd (omega arith)
long_none (b ∷ bs) behind form long =
    let letter = (both (is_letter b) (list_all is_word_byte bs) form).0 in
    let count = prefix_len is_word_byte (b ∷ (bs ++ behind)) in
    let far : length (b ∷ bs) ≤ count = front_past is_word_byte (b ∷ bs) behind
    (word_bytes (b ∷ bs) form) in
    let large : nat_le count longest_word ≡ false = lt-leb count longest_word (omega arith) in
    rw large (rw letter refl)

-- Digits more make no number smaller.
value_after_over : (n : ℕ) (xs ys : List ℕ) → value_after n (xs ++ ys)
    ≡ value_after (value_after n xs) ys
value_after_over n [] ys = refl
value_after_over n (x ∷ xs) ys = value_after_over (n * 10 + (x - 48)) xs ys

value_grows : (n : ℕ) (xs : List ℕ) → n ≤ value_after n xs
value_grows n [] = omega arith
value_grows n (x ∷ xs) = let far : n * 10 + (x - 48) ≤ value_after (n * 10 + (x - 48)) xs =
    value_grows (n * 10 + (x - 48)) xs in omega arith

value_over : (xs ys : List ℕ) (n : ℕ) → length xs ≤ n → value_of xs ≤ value_of (take n (xs ++ ys))
value_over xs ys n h =
    let more = n - length xs in
    let front : take n (xs ++ ys) ≡ xs ++ take more ys =
    ap (λ (m : ℕ). take m (xs ++ ys)) (let e : n ≡ length xs + more = omega arith in e)
    ∙ take-append-add xs ys more in
    let whole : value_of (take n (xs ++ ys)) ≡ value_after (value_of xs) (take more ys) =
    ap value_of front ∙ value_after_over 0 xs (take more ys) in
    subst (λ (v : ℕ). value_of xs ≤ v) (sym whole) (value_grows (value_of xs) (take more ys))

large_none : (digits behind : List ℕ) → 0 < length digits → list_all is_digit digits ≡ true →
    greatest_number < value_of digits → piece_at (digits ++ behind) ≡ None
unfolding piece_at number_at
large_none [] behind some all large = absurd (omega arith)
large_none (d ∷ ds) behind some all large =
    let digit = (both (is_digit d) (list_all is_digit ds) all).0 in
    let alone = digit_alone d digit in
    let rest = d ∷ (ds ++ behind) in
    let count = prefix_len is_digit rest in
    let far : value_of (d ∷ ds) ≤ value_of (take count rest) =
    value_over (d ∷ ds) behind count (front_past is_digit (d ∷ ds) behind all) in
    let beyond : nat_le (value_of (take count rest)) greatest_number ≡ false =
    lt-leb (value_of (take count rest)) greatest_number (omega arith) in
    rw beyond (rw alone.letter (rw alone.space (rw alone.ended (rw digit refl))))

stray_none : (b : ℕ) (bs : List ℕ) → is_stray b ≡ true → piece_at (b ∷ bs) ≡ None
unfolding piece_at
stray_none b bs h =
    one_of (λ (c : ℕ). piece_at (c ∷ bs) ≡ None) b (codes "#$%'.?@\\^_`|~") (
      refl,
      (
        refl,
        (refl, (refl, (refl, (refl, (refl, (refl, (refl, (refl, (refl, (refl, (refl, tt))))))))))),
      ),
    )
    h

pub caused_none : (rest : List ℕ) → HasCause rest → piece_at rest ≡ None
caused_none rest (open_name is) = ap piece_at is.parts ∙ open_none is.inside is.behind is.printable
    is.breaks
caused_none rest (long_word is) = ap piece_at is.parts ∙ long_none is.word is.behind is.form is.long
caused_none rest (large_number is) = ap piece_at is.parts
    ∙ large_none is.digits is.behind is.some is.all is.large
caused_none rest (stray_byte is) = ap piece_at is.parts ∙ stray_none is.first is.behind is.stray

some_over : (xs ys : List ℕ) → 0 < length xs → 0 < length (xs ++ ys)
some_over [] ys h = absurd (omega arith)
some_over (x ∷ xs) ys h = omega arith

-- There is a byte at least if there is a cause.
pub caused_some : (rest : List ℕ) → HasCause rest → 0 < length rest
caused_some rest (open_name is) = rw is.parts (omega arith)
caused_some rest (long_word is) = let l = is.long in rw is.parts
    (some_over is.word is.behind (omega arith))
caused_some rest (large_number is) = rw is.parts (some_over is.digits is.behind is.some)
caused_some rest (stray_byte is) = rw is.parts (omega arith)

-- ---- what each piece says of the bytes, and if nothing begins, there is a cause

pub record IsDashed (b : ℕ) (bs : List ℕ) (count : ℕ) : Type 0 where
  pub first : b ≡ 45
  pub second : begins_with 45 bs ≡ true
  pub long : count ≡ 1 + prefix_len is_comment_byte bs

abbrev pub Means : ℕ → List ℕ → Option Piece → Type 0
Means b bs None = IsAllowed (b ∷ bs) → HasCause (b ∷ bs)
Means b bs (Some Space) = is_blank b ≡ true
Means b bs (Some LineEnd) = is_blank b ≡ true
Means b bs (Some (Comment count)) = IsDashed b bs count
Means b bs (Some (Lexeme kind count)) = Unit {0}

word_means : (b : ℕ) (bs : List ℕ) → is_letter b ≡ true → Means b bs (word_at (b ∷ bs))
unfolding word_at
word_means b bs letter =
    let rest = b ∷ bs in
    let count = prefix_len is_word_byte rest in
    chosen (Means b bs) (nat_le count longest_word) (Some (Lexeme Word count)) None (λ _. tt)
    (λ (f : nat_le count longest_word ≡ false) _.
    let far : longest_word < count = leb-false count longest_word f in
    long_word (record {
      word = take count rest;
      behind = drop count rest;
      parts = sym (take-append-drop count rest);
      form = word_form b bs letter;
      long = subst (λ (n : ℕ). 64 < n) (sym (length-prefix_len is_word_byte rest)) far;
    }))

number_means : (b : ℕ) (bs : List ℕ) → is_digit b ≡ true → Means b bs (number_at (b ∷ bs))
unfolding number_at
number_means b bs digit =
    let rest = b ∷ bs in
    let count = prefix_len is_digit rest in
    let value = value_of (take count rest) in
    chosen (Means b bs) (nat_le value greatest_number) (Some (Lexeme (Number (pos value)) count))
    None (λ _. tt)
    (λ (f : nat_le value greatest_number ≡ false) _.
    large_number (record {
      digits = take count rest;
      behind = drop count rest;
      parts = sym (take-append-drop count rest);
      some = subst (λ (n : ℕ). 0 < n) (sym (length-prefix_len is_digit rest))
          (front_some is_digit b bs digit);
      all = all_pass is_digit rest;
      large = leb-false value greatest_number f;
    }))

breaks_here : (b : ℕ) (bs behind : List ℕ) → IsAllowed (b ∷ bs) →
    drop (prefix_len is_name_byte bs) bs ≡ behind → begins_with quote behind ≡ false →
    BreaksOff behind
breaks_here b bs [] allowed e f = tt
breaks_here b bs (c ∷ cs) allowed e f =
    let count = prefix_len is_name_byte bs in
    let here : get_or bs count 0 ≡ c = begins_at c bs count
    (ap (begins_with c) e ∙ eq-eqb c c refl) in
    let within : count < length bs = omega (arith, length-drop count bs, ap length e) in
    let inside : is_name_byte c ≡ false = ap is_name_byte (sym here)
    ∙ prefix_len_stops is_name_byte bs 0 within in
    let good : is_allowed c ≡ true = ap is_allowed (sym here) ∙ allowed (suc count) (omega arith) in
    left_break c good inside f

name_means : (b : ℕ) (bs : List ℕ) → (b == quote) ≡ true → Means b bs (name_behind bs)
unfolding name_behind
name_means b bs q =
    let count = prefix_len is_name_byte bs in
    let behind = drop count bs in
    chosen (Means b bs) (begins_with quote behind) (Some (Lexeme Name (count + 2))) None (λ _. tt)
    (λ (f : begins_with quote behind ≡ false) (allowed : IsAllowed (b ∷ bs)).
    open_name (record {
      inside = take count bs;
      behind = behind;
      parts = ap (λ (c : ℕ). c ∷ bs) (eqb-true b quote q)
          ∙ ap (λ (cs : List ℕ). quote ∷ cs) (sym (take-append-drop count bs));
      printable = all_pass is_name_byte bs;
      breaks = breaks_here b bs behind allowed refl f;
    }))

dash_means : (b : ℕ) (bs : List ℕ) → (b == 45) ≡ true → Means b bs (Some (dash_before bs))
unfolding dash_before
dash_means b bs d =
    let far = prefix_len is_comment_byte bs in
    dash_chosen (λ (p : Piece). Means b bs (Some p)) (begins_with 45 bs) (Comment (1 + far))
    (cond (begins_with 62 bs) (Lexeme Arrow 2) (Lexeme (Symbol 45) 1))
    (λ (second : begins_with 45 bs ≡ true). record {
      first = eqb-true b 45 d;
      second = second;
      long = refl;
    })
    (λ _. dash_chosen (λ (p : Piece). Means b bs (Some p)) (begins_with 62 bs) (Lexeme Arrow 2)
    (Lexeme (Symbol 45) 1) (λ _. tt) (λ _. tt))

space_blank : (b : ℕ) → is_space b ≡ true → is_blank b ≡ true
space_blank b h = one (b == 9) (b == 10) (b == 13) (b == 32) h
  where
    one : (t n r s : Bool) → (t || r || s) ≡ true → (t || (n || (r || (s || false)))) ≡ true
    one true n r s e = refl
    one false true r s e = refl
    one false false true s e = refl
    one false false false true e = refl
    one false false false false e = e

pub means : (b : ℕ) (bs : List ℕ) → Means b bs (piece_at (b ∷ bs))
means b bs = by_first_byte (Means b bs) b bs
    (λ l. word_means b bs l) (λ s. space_blank b s) (λ (e : (b == 10) ≡ true). let ten : b ≡ 10 =
    eqb-true b 10 e in ap is_blank ten)
    (λ d. number_means b bs d) (λ q. name_means b bs q) (λ d. dash_means b bs d) (λ o s. tt)
    (λ o (symbol : is_symbol b ≡ false) (allowed : IsAllowed (b ∷ bs)). stray_byte (record {
      first = b;
      behind = bs;
      parts = refl;
      stray = left_stray b (allowed 0 (omega arith)) o.letter o.space o.ended o.digit o.quoted
          o.dash symbol;
    }))

caused_by : (rest : List ℕ) → 0 < length rest → IsAllowed rest → piece_at rest ≡ None →
    HasCause rest
caused_by [] some allowed e = absurd (omega arith)
caused_by (b ∷ bs) some allowed e = subst (Means b bs) e (means b bs) allowed

-- What is after a place of an allowed text is allowed.
pub allowed_behind : (text : List ℕ) (at : ℕ) → IsAllowed text → IsAllowed (drop at text)
allowed_behind text at allowed k h = ap is_allowed (get_or-drop at text k 0)
    ∙ allowed (at + k) (omega (arith, length-drop at text))

-- If nothing begins in an allowed text, there is a cause.
pub none_caused : (text : List ℕ) (at : ℕ) → IsAllowed text → at < length text →
    piece_at (drop at text) ≡ None → HasCause (drop at text)
none_caused text at allowed h e = caused_by (drop at text) (omega (arith, length-drop at text))
    (allowed_behind text at allowed) e
