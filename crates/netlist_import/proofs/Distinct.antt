-- The names of one place differ, as long as there are fewer than 2^64.
use Rattle.std.proofs.Common.{◌≡◌, ℕ, zero, suc, ◌+◌, ◌<◌, ◌≤◌, ◌^◌, Bool, true, false, cond, ◌&&◌, ◌||◌, List, [], ◌∷◌, ◌++◌, length, refl, sym, ap, subst, arith, inl, inr}
use Rattle.std.specs.Prelude.{not, nat_le}
use Rattle.std.specs.List.{IsDistinct, list_any, AllByRecursion}
use Rattle.std.specs.Str.{bytes_eq}
use Rattle.std.proofs.lemmas.Bool.{and_parts, cases_lt, or_parts}
use Rattle.std.proofs.lemmas.List.{append_assoc, append-nil, length_push}
use Rattle.std.proofs.lemmas.Slice.Eq.{bytes_eq-Decides}
use Rattle.scald_base.specs.Word.{longest_word}
use Rattle.netlist_import.specs.Fresh.{fresh, is_new, least_from, least_number, names_after, numbered}
use Rattle.netlist_import.proofs.New.{new_past}

-- ---- a fresh name is new

-- What is found passes, if what comes after all passes where none before it does.
least_passes : (p : ℕ → Bool) (n fuel : ℕ) → (((k : ℕ) → n ≤ k → k < n + fuel → p k ≡ false) →
    p (n + fuel) ≡ true) →
    p (least_from p n fuel) ≡ true
unfolding least_from
least_passes p n zero last =
    let same : n + 0 ≡ n = omega arith in
    subst (λ (k : ℕ). p k ≡ true) same (last (λ k low high. absurd (omega arith)))
least_passes p n (suc fuel) last = at (p n) refl (least_passes p (n + 1) fuel)
  where
    at : (b : Bool) → p n ≡ b → ((((k : ℕ) → n + 1 ≤ k → k < n + 1 + fuel → p k ≡ false) →
        p (n + 1 + fuel) ≡ true) → p (least_from p (n + 1) fuel) ≡ true) →
        p (cond b n (least_from p (n + 1) fuel)) ≡ true
    at true e more = e
    at false e more =
        let same : n + suc fuel ≡ n + 1 + fuel = omega arith in
        more (λ none. subst (λ (k : ℕ). p k ≡ true) same (last (λ k low high.
        elim (cases_lt n k) [
          | inl less ↦ none k (omega arith) (omega arith)
          | inr past ↦ let here : k ≡ n = omega arith in subst (λ (j : ℕ). p j ≡ false) (sym here) e
        ])))

pub fresh_new : (taken : List (List ℕ)) (name : List ℕ) → length taken < 2 ^ 64 →
    is_new taken (fresh taken name) ≡ true
unfolding fresh
fresh_new taken name small = at (nat_le (length name) longest_word && is_new taken name) refl
  where
    at : (b : Bool) → (nat_le (length name) longest_word && is_new taken name) ≡ b →
        is_new taken (cond b name (numbered name (least_number taken name))) ≡ true
    at true e = (and_parts (nat_le (length name) longest_word) (is_new taken name) e).1
    at false e =
        let same : 0 + length taken ≡ length taken = omega arith in
        least_passes (λ n. is_new taken (numbered name n)) 0 (length taken)
        (λ none. subst (λ (k : ℕ). is_new taken (numbered name k) ≡ true) (sym same)
        (new_past taken name small (record {
          each = λ k less. none k (omega arith) (omega arith);
        })))

-- ---- and makes no two alike

all_more : {A : Type 0} (P : A → Type 0) (xs : List A) (x : A) → AllByRecursion P xs → P x →
    AllByRecursion P (xs ++ x ∷ [])
all_more P [] x all here = (here, tt)
all_more P (y ∷ ys) x all here = (all.0, all_more P ys x all.1 here)

pub turned : (x y : List ℕ) → bytes_eq x y ≡ false → bytes_eq y x ≡ false
turned x y e = at (bytes_eq y x) refl
  where
    at : (b : Bool) → bytes_eq y x ≡ b → bytes_eq y x ≡ false
    at false f = f
    at true f =
        let same : y ≡ x = (bytes_eq-Decides y x).0 f in
        let back : bytes_eq x y ≡ true = (bytes_eq-Decides x y).1 (sym same) in
        absurd (cc)

all_inside : {A : Type 0} (P : A → Type 0) (xs ys : List A) (x : A) → AllByRecursion P (xs ++ ys) →
    P x → AllByRecursion P (xs ++ x ∷ ys)
all_inside P [] ys x all here = (here, all)
all_inside P (z ∷ xs) ys x all here = (all.0, all_inside P xs ys x all.1 here)

-- with one more that is none of them
pub distinct_from : (xs ys : List (List ℕ)) (x : List ℕ) →
    AllByRecursion (λ y. bytes_eq x y ≡ false) (xs ++ ys) → IsDistinct bytes_eq (xs ++ ys) →
    IsDistinct bytes_eq (xs ++ x ∷ ys)
unfolding IsDistinct
distinct_from [] ys x all distinct = (all, distinct)
distinct_from (z ∷ xs) ys x all distinct = (
  all_inside (λ y. bytes_eq z y ≡ false) xs ys x distinct.0 (turned x z all.0),
  distinct_from xs ys x all.1 distinct.1,
)

pub was_new : (b : Bool) → not b ≡ true → b ≡ false
was_new true e = absurd (cc)
was_new false e = refl

pub none_distinct : IsDistinct bytes_eq []
unfolding IsDistinct
none_distinct = tt

pub distinct_more : (xs : List (List ℕ)) (x : List ℕ) → IsDistinct bytes_eq xs → is_new xs x
    ≡ true → IsDistinct bytes_eq (xs ++ x ∷ [])
unfolding IsDistinct
distinct_more [] x distinct new = (tt, tt)
distinct_more (y ∷ ys) x distinct new =
    let parts = or_parts (bytes_eq x y) (list_any (bytes_eq x) ys)
    (was_new (bytes_eq x y || list_any (bytes_eq x) ys) new) in (
      all_more (λ z. bytes_eq y z ≡ false) ys x distinct.0 (turned x y parts.0),
      distinct_more ys x
          distinct.1 (ap not parts.1),
    )

pub names_distinct : (taken names : List (List ℕ)) → IsDistinct bytes_eq taken →
    length taken + length names < 2 ^ 64 →
    IsDistinct bytes_eq (taken ++ names_after taken names)
unfolding names_after
names_distinct taken [] distinct small = subst (λ (t : List (List ℕ)). IsDistinct bytes_eq t)
    (sym (append-nil taken)) distinct
names_distinct taken (name ∷ names) distinct small =
    let here = fresh taken name in
    let next = distinct_more taken here distinct (fresh_new taken name (omega arith)) in
    let more : length (taken ++ here ∷ []) ≡ length taken + 1 = length_push taken here in
    subst (λ (t : List (List ℕ)). IsDistinct bytes_eq t)
    (append_assoc taken (here ∷ []) (names_after (taken ++ here ∷ []) names))
    (names_distinct (taken ++ here ∷ []) names next (omega arith))
