-- How many limits are broken.
use Rattle.std.proofs.Common.{◌≡◌, ℕ, zero, suc, ◌+◌, ◌-◌, ◌<◌, ◌≤◌, Bool, true, false, not, ◌||◌, cond, refl, sym, ap, subst, ◌∙◌, arith, List, [], ◌∷◌, ◌++◌, map, length, take, Option, Some, None}
use Rattle.std.specs.Prelude.{◌==◌, slice_get, slice_index_or, nat_le}
use Rattle.std.specs.List.{AllByRecursion, flat_map, list_all, list_any}
use Rattle.std.proofs.lemmas.Bool.{and_parts, or_right}
use Rattle.std.proofs.lemmas.List.{take_all, take_more}
use Rattle.flat_circuit.specs.Circuit.{Circuit}
use Rattle.slack_rows.specs.declared.parameter.Parameter.{Parameter}
use Rattle.slack_rows.specs.declared.parameter.Subject.{Subject}
use Rattle.slack_rows.specs.declared.parameter.Word.{Word as Limit}
use Rattle.slack_rows.specs.declared.rows.Least.{Least}
use Rattle.slack_rows.specs.Limit.{Case}
use Rattle.slack_rows.specs.Rows.{all_limits, limit_with, limits_at, limits_of, subjects}
use Rattle.slack_rows.specs.Known.{are_sure, breaks, is_sure, least_at}

-- ---- counted

any_append : {A : Type 0} (test : A → Bool) (xs : List A) (x : A) → list_any test (xs ++ x ∷ []) ≡ (list_any test xs || test x)
any_append test [] x = by (test x)
  where
    by : (b : Bool) → (b || false) ≡ b
    by true = refl
    by false = refl
any_append test (y ∷ xs) x = by (test y) (any_append test xs x)
  where
    by : (b : Bool) → list_any test (xs ++ x ∷ []) ≡ (list_any test xs || test x) →
        (b || list_any test (xs ++ x ∷ [])) ≡ ((b || list_any test xs) || test x)
    by true rest = refl
    by false rest = rest

pub at_0 : (least : List (Option Least)) (place : ℕ) → least_at least place 0 ≡ slice_index_or least place None
at_0 least place =
    ap (λ (b : Bool). cond b (slice_index_or least (place - 0) None) None) le ∙ ap (λ (i : ℕ). slice_index_or least i None) less
  where
    le : nat_le 0 place ≡ true
    le = grind arith

    less : place - 0 ≡ place
    less = omega arith

-- some limit so far is broken
abbrev pub any_so_far : List (Option Least) → ℕ → Bool
any_so_far least place = list_any breaks (take place least)

pub any_more : (least : List (Option Least)) (place : ℕ) → place < length least →
    any_so_far least (place + 1) ≡ (any_so_far least place || breaks (slice_index_or least place None))
any_more least place within = ap (list_any breaks) (take_more least place None within) ∙ any_append breaks (take place least) (slice_index_or least place None)

-- what is broken one place before is among those so far
pub any_before : (least : List (Option Least)) (place : ℕ) → place < length least → breaks (least_at least place 1) ≡ true →
    any_so_far least place ≡ true
any_before least zero within broken = absurd (cc)
any_before least (suc place) within broken =
    let back : suc place ≡ place + 1 = omega arith in
    let le : nat_le 1 (suc place) ≡ true = grind arith in
    let same : suc place - 1 ≡ place = omega arith in
    let here : breaks (slice_index_or least place None) ≡ true =
    ap (λ (i : ℕ). breaks (slice_index_or least i None)) (sym same)
    ∙ ap (λ (b : Bool). breaks (cond b (slice_index_or least (suc place - 1) None) None)) (sym le) ∙ broken in
    ap (any_so_far least) back ∙ any_more least place (omega (arith, within))
    ∙ or_right (any_so_far least place) (breaks (slice_index_or least place None)) here

-- the count is 0 exactly where none is broken
abbrev pub Counts : List (Option Least) → ℕ → ℕ → Type 0
Counts least place count = (count == 0) ≡ not (any_so_far least place)

counted_more : (count : ℕ) → (count + 1 == 0) ≡ false
counted_more count = grind arith

pub count_own : (least : List (Option Least)) (place count : ℕ) → place < length least → breaks (slice_index_or least place None) ≡ true →
    Counts least (place + 1) (count + 1)
count_own least place count within broken =
    counted_more count
    ∙ ap not (sym (any_more least place within ∙ or_right (any_so_far least place) (breaks (slice_index_or least place None)) broken))

pub count_same : (least : List (Option Least)) (place count : ℕ) → place < length least → Counts least place count →
    (breaks (slice_index_or least place None) ≡ true → any_so_far least place ≡ true) → Counts least (place + 1) count
count_same least place count within so_far finding =
    so_far ∙ ap not (sym (any_more least place within ∙ by (any_so_far least place) (breaks (slice_index_or least place None)) finding))
  where
    by : (a b : Bool) → (b ≡ true → a ≡ true) → (a || b) ≡ a
    by true b is = refl
    by false true is = sym (is refl)
    by false false is = refl

pub count_all : (least : List (Option Least)) (place count : ℕ) → length least ≤ place → Counts least place count →
    (count == 0) ≡ not (list_any breaks least)
count_all least place count past so_far = so_far ∙ ap (λ (xs : List (Option Least)). not (list_any breaks xs)) (take_all place least past)

-- ---- of limits

all_append : {A : Type 0} (P : A → Type 0) (xs ys : List A) → AllByRecursion P xs → AllByRecursion P ys → AllByRecursion P (xs ++ ys)
all_append P [] ys first second = second
all_append P (x ∷ xs) ys first second = (first.0, all_append P xs ys first.1 second)

all_at : {A : Type 0} (P : A → Type 0) (xs : List A) (i : ℕ) (x : A) → AllByRecursion P xs → slice_get xs i ≡ Some x → P x
all_at P [] i x all at = absurd (cc)
all_at {A} P (y ∷ xs) zero x all at = subst P (by at) all.0
  where
    item : Option A → A
    item None = y
    item (Some z) = z

    by : Some y ≡ Some x → y ≡ x
    by same = ap item same
all_at P (y ∷ xs) (suc i) x all at = all_at P xs i x all.1 at

module _ (c : Circuit) (cases : List Case) where
  abbrev IsSureOf : Parameter → Type 0
  IsSureOf q = is_sure c cases q.subject ≡ true

  of_subject : (subject : Subject) (words : List Limit) → is_sure c cases subject ≡ true →
      AllByRecursion IsSureOf (map (limit_with c subject) words)
  of_subject subject [] sure = tt
  of_subject subject (word ∷ words) sure = (sure, of_subject subject words sure)

  of_subjects : (some : List Subject) → list_all (is_sure c cases) some ≡ true → AllByRecursion IsSureOf (flat_map (limits_at c) some)
  of_subjects [] sure = tt
  of_subjects (subject ∷ some) sure =
      let parts = and_parts (is_sure c cases subject) (list_all (is_sure c cases) some) sure in
      all_append IsSureOf (limits_at c subject) (flat_map (limits_at c) some) (of_subject subject (limits_of c subject) parts.0)
      (of_subjects some parts.1)

  pub sure_at : (limits : List Parameter) → limits ≡ all_limits c → are_sure c cases ≡ true → (i : ℕ) (q : Parameter) →
      slice_get limits i ≡ Some q → is_sure c cases q.subject ≡ true
  sure_at limits are sure i q at =
      all_at IsSureOf (all_limits c) i q (of_subjects (subjects c) sure) (ap (λ (xs : List Parameter). slice_get xs i) (sym are) ∙ at)
