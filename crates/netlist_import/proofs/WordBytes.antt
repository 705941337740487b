-- Names are words, as long as there are fewer than 2^64 of them in one place.
use Rattle.std.proofs.Common.{◌≡◌, ℕ, zero, suc, ◌+◌, ◌-◌, ◌%◌, ◌<◌, ◌≤◌, ◌^◌, ◌==◌, Bool, true, false, cond, ◌&&◌, ◌||◌, List, [], ◌∷◌, ◌++◌, length, take, map, codes, refl, sym, subst, arith}
use Rattle.std.specs.Prelude.{not, nat_le, decimal}
use Rattle.std.specs.List.{list_all, list_any}
use Rattle.std.specs.Str.{bytes_eq}
use Rattle.std.proofs.lemmas.Bool.{and_parts, or_parts}
use Rattle.std.proofs.lemmas.Bool.Decides.{nat_tests}
use Rattle.std.proofs.lemmas.Fmt.{decimal_by_steps, length-decimal-le}
use Rattle.std.proofs.lemmas.List.{append_assoc, length-append}
use Rattle.std.proofs.lemmas.List.Folds.{list_all-append}
use Rattle.std.proofs.lemmas.Slice.Eq.{bytes_eq-Decides}
use Rattle.scald_base.specs.Word.{begins_word, is_digit, is_letter, is_word_byte, longest_word, reserved_words}
use Rattle.scald_base.specs.Word as word
use Rattle.element_kinds.specs.Kinds.{kind_names}
use Rattle.drawing_tree.specs.WellFormed.{IsFreeWord}
use Rattle.netlist_import.specs.Words.{after_backslash, begins_with_letter, free, free_kind, is_primitive, is_reserved, is_taken, kind_word_of, marked, word_byte, word_of}
use Rattle.netlist_import.specs.Fresh.{fresh, is_new, least_from, least_number, numbered}
use Rattle.netlist_import.proofs.Distinct.{turned}
use Rattle.netlist_import.proofs.New.{was_taken}

-- ---- what is spelled so far

-- a word, but for its length
pub record IsSpelled (w : List ℕ) : Type 0 where
  pub form : begins_word w ≡ true
  pub free : word.is_reserved w ≡ false

each_byte : (bs : List ℕ) → list_all is_word_byte (map word_byte bs) ≡ true
each_byte [] = refl
each_byte (b ∷ bs) = at (is_word_byte b) refl (each_byte bs)
  where
    at : (t : Bool) → is_word_byte b ≡ t → list_all is_word_byte (map word_byte bs) ≡ true →
        (is_word_byte (cond t b 95) && list_all is_word_byte (map word_byte bs)) ≡ true
    at true e more = rw (e, more) refl
    at false e more = rw more refl

turned_any : (names : List (List ℕ)) (w : List ℕ) → list_any (λ n. bytes_eq n w) names ≡ false →
    list_any (bytes_eq w) names ≡ false
turned_any [] w e = refl
turned_any (n ∷ names) w e =
    let parts = or_parts (bytes_eq n w) (list_any (λ k. bytes_eq k w) names) e in
    rw (turned n w parts.0, turned_any names w parts.1) refl

begins : (x : List ℕ) → begins_with_letter x ≡ true → list_all is_word_byte x ≡ true → begins_word x
    ≡ true
begins [] e all = absurd (cc)
begins (b ∷ bs) e all = rw (e, (and_parts (is_word_byte b) (list_all is_word_byte bs) all).1) refl

pub spelled_free : (x : List ℕ) → list_all is_word_byte x ≡ true → IsSpelled (free x)
spelled_free x all = at (is_taken x) refl
  where
    at : (b : Bool) → is_taken x ≡ b → IsSpelled (marked b x)
    at true e = record { form = all; free = refl }
    at false e =
        let parts = or_parts (not (begins_with_letter x)) (is_reserved x) e in
        record {
          form = begins x (was_taken (begins_with_letter x) parts.0) all;
          free = turned_any reserved_words x parts.1;
        }

pub spelled_word : (name : List ℕ) → IsSpelled (word_of name)
spelled_word name = spelled_free (map word_byte (after_backslash name))
    (each_byte (after_backslash name))

-- a macro's is that of no primitive either
pub record IsSpelledKind (w : List ℕ) : Type 0 where
  pub spelled : IsSpelled w
  pub other : is_primitive w ≡ false

pub spelled_kind : (name : List ℕ) → IsSpelledKind (kind_word_of name)
spelled_kind name = by (map word_byte (after_backslash name)) (each_byte (after_backslash name))
  where
    by : (x : List ℕ) → list_all is_word_byte x ≡ true → IsSpelledKind (free_kind x)
    by x all = at (is_taken x || is_primitive x) refl
      where
        at : (b : Bool) → (is_taken x || is_primitive x) ≡ b → IsSpelledKind (marked b x)
        at true e = record { spelled = record { form = all; free = refl }; other = refl }
        at false e =
            let kinds = or_parts (is_taken x) (is_primitive x) e in
            let parts = or_parts (not (begins_with_letter x)) (is_reserved x) kinds.0 in
            record {
              spelled = record {
                form = begins x (was_taken (begins_with_letter x) parts.0) all;
                free = turned_any reserved_words x parts.1;
              };
              other = kinds.1;
            }

-- ---- numbers

digits_more : (ds : List ℕ) (d : ℕ) → list_all is_digit ds ≡ true → is_digit d ≡ true →
    list_all is_digit (ds ++ d ∷ []) ≡ true
digits_more [] d all here = rw here refl
digits_more (e ∷ ds) d all here =
    let parts = and_parts (is_digit e) (list_all is_digit ds) all in
    rw (parts.0, digits_more ds d parts.1 here) refl

one_digit : (n : ℕ) → n < 10 → is_digit (48 + n) ≡ true
one_digit n h = grind (arith, nat_tests)

pub decimal_digits : (n : ℕ) → n < 2 ^ 64 → list_all is_digit (decimal n) ≡ true
decimal_digits n h =
    decimal_by_steps (λ n ds. list_all is_digit ds ≡ true) (λ n h. rw (one_digit n h) refl)
    (λ n ds h all. digits_more ds (48 + n % 10) all (one_digit (n % 10) (omega arith))) n h

word_digits : (ds : List ℕ) → list_all is_digit ds ≡ true → list_all is_word_byte ds ≡ true
word_digits [] all = refl
word_digits (d ∷ ds) all =
    let parts = and_parts (is_digit d) (list_all is_digit ds) all in
    rw (digit d parts.0, word_digits ds parts.1) refl
  where
    either : (b c : Bool) → ((b || true) || c) ≡ true
    either true c = refl
    either false c = refl

    digit : (d : ℕ) → is_digit d ≡ true → is_word_byte d ≡ true
    digit d e = rw e (either (is_letter d) (d == 95))

longer_word : (name tail : List ℕ) → begins_word name ≡ true → list_all is_word_byte tail ≡ true →
    begins_word (name ++ tail) ≡ true
longer_word [] tail e all = absurd (cc)
longer_word (b ∷ bs) tail e all =
    let parts = and_parts (is_letter b) (list_all is_word_byte bs) e in
    rw (parts.0, list_all-append is_word_byte bs tail, parts.1, all) refl

-- a word and a number
pub spelled_counted : (name : List ℕ) (n : ℕ) → n < 2 ^ 64 → begins_word name ≡ true →
    word.is_reserved (name ++ decimal n) ≡ false → IsSpelled (name ++ decimal n)
spelled_counted name n h is other = record {
  form = longer_word name (decimal n) is (word_digits (decimal n) (decimal_digits n h));
  free = other;
}

-- ---- a number behind a name

-- It ends in a mark and digits.
abbrev is_numbered : List ℕ → Bool
is_numbered [] = false
is_numbered (b ∷ bs) = (b == 95 && list_all is_digit bs) || is_numbered bs

numbered_ends : (u ds : List ℕ) → list_all is_digit ds ≡ true → is_numbered (u ++ 95 ∷ ds) ≡ true
numbered_ends [] ds all = rw all refl
numbered_ends (b ∷ u) ds all = rw (numbered_ends u ds all)
    (either (b == 95 && list_all is_digit (u ++ 95 ∷ ds)))
  where
    either : (c : Bool) → (c || true) ≡ true
    either true = refl
    either false = refl

not_among : (names : List (List ℕ)) (w : List ℕ) → list_any is_numbered names ≡ false →
    is_numbered w ≡ true → list_any (bytes_eq w) names ≡ false
not_among [] w none is = refl
not_among (n ∷ names) w none is =
    let parts = or_parts (is_numbered n) (list_any is_numbered names) none in
    rw (at (bytes_eq w n) refl parts.0, not_among names w parts.1 is) refl
  where
    at : (b : Bool) → bytes_eq w n ≡ b → is_numbered n ≡ false → bytes_eq w n ≡ false
    at false e f = e
    at true e f = let same : w ≡ n = (bytes_eq-Decides w n).0 e in absurd (cc)

all_front : (p : ℕ → Bool) (k : ℕ) (bs : List ℕ) → list_all p bs ≡ true → list_all p (take k bs)
    ≡ true
all_front p zero bs all = refl
all_front p (suc k) [] all = refl
all_front p (suc k) (b ∷ bs) all =
    let parts = and_parts (p b) (list_all p bs) all in
    rw (parts.0, all_front p k bs parts.1) refl

front_length : (k : ℕ) (bs : List ℕ) → length (take k bs) ≤ k
front_length zero bs = omega arith
front_length (suc k) [] = omega arith
front_length (suc k) (b ∷ bs) = let more = front_length k bs in omega arith

-- it begins as the word does
begins_front : (w : List ℕ) (k : ℕ) (tail : List ℕ) → 0 < k → begins_word w ≡ true →
    list_all is_word_byte tail ≡ true →
    begins_word (take k w ++ tail) ≡ true
begins_front [] k tail h e all = absurd (cc)
begins_front (b ∷ bs) zero tail h e all = absurd (omega arith)
begins_front (b ∷ bs) (suc k) tail h e all =
    let parts = and_parts (is_letter b) (list_all is_word_byte bs) e in
    rw (
      parts.0,
      list_all-append is_word_byte (take k bs) tail,
      all_front is_word_byte k bs parts.1,
      all,
    ) refl

module _ (w : List ℕ) (n : ℕ) (h : n < 2 ^ 64) where
  abbrev room : ℕ
  room = 64 - length (95 ∷ decimal n)

  parted : numbered w n ≡ take room w ++ 95 ∷ decimal n
  parted = append_assoc (take room w) (codes "_") (decimal n)

  long : length (decimal n) ≤ 20
  long = length-decimal-le 20 n (omega arith) (omega arith) h

  numbered_word : begins_word w ≡ true → begins_word (numbered w n) ≡ true
  numbered_word e =
      let most = long in
      subst (λ (t : List ℕ). begins_word t ≡ true) (sym parted)
      (begins_front w room (95 ∷ decimal n) (omega arith) e
      (word_digits (decimal n) (decimal_digits n h)))

  numbered_short : length (numbered w n) ≤ 64
  numbered_short =
      let most = long in
      let front = front_length room w in
      let both = length-append (take room w) (95 ∷ decimal n) in
      subst (λ (t : List ℕ). length t ≤ 64) (sym parted) (omega arith)

  numbered_other : (names : List (List ℕ)) → list_any is_numbered names ≡ false →
      list_any (bytes_eq (numbered w n)) names ≡ false
  numbered_other names none =
      not_among names (numbered w n) none
      (subst (λ (t : List ℕ). is_numbered t ≡ true) (sym parted)
      (numbered_ends (take room w) (decimal n) (decimal_digits n h)))

-- ---- fresh names

least_within : (p : ℕ → Bool) (n fuel : ℕ) → least_from p n fuel ≤ n + fuel
unfolding least_from
least_within p n zero = omega arith
least_within p n (suc fuel) = at (p n) (least_within p (n + 1) fuel)
  where
    at : (b : Bool) → least_from p (n + 1) fuel ≤ n + 1 + fuel →
        cond b n (least_from p (n + 1) fuel) ≤ n + suc fuel
    at true more = omega arith
    at false more = omega arith

least_small : (taken : List (List ℕ)) (name : List ℕ) → length taken < 2 ^ 64 →
    least_number taken name < 2 ^ 64
least_small taken name small =
    let most = least_within (λ n. is_new taken (numbered name n)) 0 (length taken) in omega arith

-- what holds of the name that is wanted, if it is short, and of each with a number, holds of the
-- fresh one
pub fresh_by : (P : List ℕ → Type 0) (taken : List (List ℕ)) (name : List ℕ) →
    length taken < 2 ^ 64 →
    (length name ≤ 64 → P name) → ((n : ℕ) → n < 2 ^ 64 → P (numbered name n)) →
    P (fresh taken name)
unfolding fresh
fresh_by P taken name small plain more = at (nat_le (length name) longest_word && is_new taken name)
    refl
  where
    at : (b : Bool) → (nat_le (length name) longest_word && is_new taken name) ≡ b →
        P (cond b name (numbered name (least_number taken name)))
    at true e =
        let parts = and_parts (nat_le (length name) longest_word) (is_new taken name) e in
        let within = parts.0 in
        plain (grind (arith, nat_tests))
    at false e = more (least_number taken name) (least_small taken name small)

pub fresh_word : (taken : List (List ℕ)) (name : List ℕ) → length taken < 2 ^ 64 → IsSpelled name →
    IsFreeWord (fresh taken name)
fresh_word taken name small spelled =
    fresh_by IsFreeWord taken name small
    (λ short. record {
      is_word = record { form = spelled.form; short = short };
      is_free = spelled.free;
    })
    (λ n h. record {
      is_word = record {
        form = numbered_word name n h spelled.form;
        short = numbered_short name n h;
      };
      is_free = numbered_other name n h reserved_words refl;
    })

pub fresh_other : (taken : List (List ℕ)) (name : List ℕ) → length taken < 2 ^ 64 →
    IsSpelledKind name → is_primitive (fresh taken name) ≡ false
fresh_other taken name small spelled =
    fresh_by (λ w. is_primitive w ≡ false) taken name small (λ short. spelled.other)
    (λ n h. numbered_other name n h kind_names refl)
