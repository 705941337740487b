-- What holds of each of some bytes, and what is computed of each byte that a text may hold.
use Rattle.std.proofs.Common.{◌≡◌, ℕ, zero, suc, ◌<◌, ◌≤◌, Bool, true, false, not, ◌&&◌, ◌||◌, nat_lt, List, [], ◌∷◌, refl, ap, sym, subst, ◌∙◌, arith, eqb-true}
use Rattle.std.specs.Prelude.{◌==◌}
use Rattle.std.specs.List.{list_any, AllByRecursion}
use borrow.Author.Tests.{ltb-true, ltb-false}
use Rattle.std.proofs.lemmas.Bool.Decides.{nat_tests}
use Rattle.scald_base.specs.Word.{is_letter, is_digit}
use Rattle.scald_lex.specs.Bytes.{is_space, is_allowed, is_name_byte, is_symbol}
use Rattle.scald_lex.specs.Causes.{is_break, is_stray}

one_step : (P : ℕ → Type 0) (b x : ℕ) (more t : Bool) → (b == x) ≡ t → P x → (more ≡ true → P b) →
    (t || more) ≡ true → P b
one_step P b x more true e here later h = subst P (sym (eqb-true b x e)) here
one_step P b x more false e here later h = later h

-- What holds of each of these bytes holds of a byte that is one of them.
pub one_of : (P : ℕ → Type 0) (b : ℕ) (xs : List ℕ) → AllByRecursion P xs →
    list_any (λ s. b == s) xs ≡ true → P b
one_of P b [] all h = absurd cc
one_of P b (x ∷ xs) all h = one_step P b x (list_any (λ s. b == s) xs) (b == x) refl all.0
    (one_of P b xs all.1) h

-- ---- tests of all bytes below a number

abbrev all_below : (ℕ → Bool) → ℕ → Bool
all_below p zero = true
all_below p (suc n) = p n && all_below p n

both : (a b : Bool) → (a && b) ≡ true → (a ≡ true) × (b ≡ true)
both true true h = (refl, refl)
both true false h = absurd cc
both false b h = absurd cc

at_step : (p : ℕ → Bool) (n k : ℕ) (t : Bool) → nat_lt k n ≡ t → k < suc n → p n ≡ true →
    (k < n → p k ≡ true) → p k ≡ true
at_step p n k true e l last before = before (ltb-true k n e)
at_step p n k false e l last before = let h : n ≤ k = ltb-false k n e in let same : k ≡ n =
    omega arith in ap p same ∙ last

at_below : (p : ℕ → Bool) (n k : ℕ) → all_below p n ≡ true → k < n → p k ≡ true
at_below p zero k h l = absurd (omega arith)
at_below p (suc n) k h l = let parts = both (p n) (all_below p n) h in
    at_step p n k (nat_lt k n) refl l parts.0 (at_below p n k parts.1)

-- ---- bytes that a text may hold

small : (b : ℕ) → is_allowed b ≡ true → b < 127
small b h = grind (arith, nat_tests)

past : (p q : Bool) → p ≡ false → (p || q) ≡ true → q ≡ true
past true q e h = absurd cc
past false q e h = h

denied : (p : Bool) → p ≡ true → not p ≡ false
denied p e = ap not e

abbrev begins_some : ℕ → Bool
begins_some b =
    not (is_allowed b) || (is_letter b || (is_space b ||
    ((b == 10) || (is_digit b || ((b == 34) || ((b == 45) || (is_symbol b || is_stray b)))))))

all_begin : all_below begins_some 127 ≡ true
all_begin = refl

-- A byte with which nothing else begins is stray.
pub left_stray : (b : ℕ) → is_allowed b ≡ true → is_letter b ≡ false → is_space b ≡ false →
    (b == 10) ≡ false → is_digit b ≡ false → (b == 34) ≡ false → (b == 45) ≡ false →
    is_symbol b ≡ false → is_stray b ≡ true
left_stray b allowed letter space ended digit quoted dash symbol =
    let h = at_below begins_some 127 b all_begin (small b allowed) in
    past (is_symbol b) (is_stray b) symbol
    (past (b == 45) (is_symbol b || is_stray b) dash
    (past (b == 34) ((b == 45) || (is_symbol b || is_stray b)) quoted
    (past (is_digit b) ((b == 34) || ((b == 45) || (is_symbol b || is_stray b))) digit
    (past (b == 10) (is_digit b || ((b == 34) || ((b == 45) || (is_symbol b || is_stray b)))) ended
    (past (is_space b)
    ((b == 10) || (is_digit b || ((b == 34) || ((b == 45) || (is_symbol b || is_stray b)))))
    space
    (past (is_letter b)
    (is_space b ||
    ((b == 10) || (is_digit b || ((b == 34) || ((b == 45) || (is_symbol b || is_stray b))))))
    letter
    (past (not (is_allowed b)) (is_letter b || (is_space b ||
    ((b == 10) || (is_digit b || ((b == 34) || ((b == 45) || (is_symbol b || is_stray b)))))))
    (denied (is_allowed b) allowed) h)))))))

abbrev breaks_some : ℕ → Bool
breaks_some b = not (is_allowed b) || (is_name_byte b || ((b == 34) || is_break b))

all_break : all_below breaks_some 127 ≡ true
all_break = refl

-- A byte that stands neither in a name nor after it breaks it off.
pub left_break : (b : ℕ) → is_allowed b ≡ true → is_name_byte b ≡ false → (b == 34) ≡ false →
    is_break b ≡ true
left_break b allowed inside quoted =
    let h = at_below breaks_some 127 b all_break (small b allowed) in
    past (b == 34) (is_break b) quoted
    (past (is_name_byte b) ((b == 34) || is_break b) inside
    (past (not (is_allowed b)) (is_name_byte b || ((b == 34) || is_break b))
    (denied (is_allowed b) allowed) h))

-- ---- what a digit is not

digit_small : (b : ℕ) → is_digit b ≡ true → b < 127
digit_small b h = grind (arith, nat_tests)

abbrev is_digit_alone : ℕ → Bool
is_digit_alone b = not (is_digit b) || (not (is_letter b) && (not (is_space b) && not (b == 10)))

all_alone : all_below is_digit_alone 127 ≡ true
all_alone = refl

false_by : (p : Bool) → not p ≡ true → p ≡ false
false_by true e = absurd cc
false_by false e = refl

pub record IsDigitAlone (b : ℕ) : Type 0 where
  pub letter : is_letter b ≡ false
  pub space : is_space b ≡ false
  pub ended : (b == 10) ≡ false

pub digit_alone : (b : ℕ) → is_digit b ≡ true → IsDigitAlone b
digit_alone b h =
    let t = past (not (is_digit b)) (not (is_letter b) && (not (is_space b) && not (b == 10)))
    (denied (is_digit b) h) (at_below is_digit_alone 127 b all_alone (digit_small b h)) in
    let first = both (not (is_letter b)) (not (is_space b) && not (b == 10)) t in
    let second = both (not (is_space b)) (not (b == 10)) first.1 in
    record {
      letter = false_by (is_letter b) first.0;
      space = false_by (is_space b) second.0;
      ended = false_by (b == 10) second.1;
    }
