-- Where a number stands among numbers that follow one another.
use Rattle.std.proofs.Common.{◌≡◌, ℕ, zero, suc, ◌+◌, ◌<◌, ◌≤◌, Bool, true, false, cond, not, nat_lt, ◌==◌, List, [], ◌∷◌, length, get_or, position, Option, Some, None, refl, ap, sym, ◌∙◌, subst, arith}
use Rattle.std.specs.Int.{abs_diff}
use Rattle.std.specs.List.{position_or_len}
use Rattle.std.proofs.lemmas.Bool.Decides.{nat_tests}
use Rattle.std.proofs.lemmas.List.Quantifiers.{position-Some}
use Rattle.macro_expander.specs.Runs.{IsRun}

-- ---- the place of a number

first_at_most : {X : Type 0} (p : X → Bool) (xs : List X) (k : ℕ) (d : X) → k < length xs → p (get_or xs k d) ≡ true → position_or_len p xs ≤ k
first_at_most p [] k d l h = absurd (omega arith)
first_at_most p (x ∷ xs) zero d l h = rw h (omega arith)
first_at_most p (x ∷ xs) (suc k) d l h = by (p x) (first_at_most p xs k d (omega arith) h)
  where
    by : (b : Bool) → position_or_len p xs ≤ k → cond (not b) (1 + position_or_len p xs) 0 ≤ suc k
    by true e = omega arith
    by false e = omega arith

is_somewhere : {X : Type 0} (p : X → Bool) (xs : List X) (k : ℕ) (d : X) → k < length xs → p (get_or xs k d) ≡ true → position p xs ≡ Some (position_or_len p xs)
is_somewhere p xs k d l h =
    let m = first_at_most p xs k d l h in
    let t : nat_lt (position_or_len p xs) (length xs) ≡ true = grind (arith, nat_tests) in
    rw t refl

module _ (numbers : List ℕ) (n : ℕ) (run : IsRun numbers) where
  -- a number of the run stands as far from the first as it differs
  at_apart : (i : ℕ) → position (λ x. x == n) numbers ≡ Some i → (i < length numbers) × (get_or numbers i 0 ≡ n) × (i ≡ abs_diff (get_or numbers 0 0) n)
  at_apart i e =
      let p = position-Some (λ x. x == n) numbers i 0 e in
      let test = p.1 in
      let same : get_or numbers i 0 ≡ n = grind (arith, nat_tests) in
      (p.0, same, sym (run.apart i p.0) ∙ ap (abs_diff (get_or numbers 0 0)) same)

  module _ (k : ℕ) (apart : k ≡ abs_diff (get_or numbers 0 0) n) where
    nowhere_else : (k < length numbers → get_or numbers k 0 ≡ n → ⊥) → None ≡ position (λ x. x == n) numbers
    nowhere_else other = by (position (λ x. x == n) numbers) refl
      where
        by : (o : Option ℕ) → position (λ x. x == n) numbers ≡ o → None ≡ o
        by None e = refl
        by (Some i) e =
            let a = at_apart i e in
            let is : i ≡ k = a.2 ∙ sym apart in
            absurd (other (subst (λ (j : ℕ). j < length numbers) is a.0) (subst (λ (j : ℕ). get_or numbers j 0 ≡ n) is a.1))

    pub place_past : length numbers ≤ k → None ≡ position (λ x. x == n) numbers
    place_past h = nowhere_else (λ below is. absurd (omega arith))

    pub place_other : (m : ℕ) → m ≡ get_or numbers k 0 → (m ≡ n → ⊥) → None ≡ position (λ x. x == n) numbers
    place_other m e h = nowhere_else (λ below is. h (e ∙ is))

    pub place_here : (m : ℕ) → k < length numbers → m ≡ get_or numbers k 0 → m ≡ n → Some k ≡ position (λ x. x == n) numbers
    place_here m below e h =
        let is : get_or numbers k 0 ≡ n = sym e ∙ h in
        let test : (get_or numbers k 0 == n) ≡ true = grind (arith, nat_tests) in
        let there = is_somewhere (λ x. x == n) numbers k 0 below test in
        let a = at_apart (position_or_len (λ x. x == n) numbers) there in
        ap Some (apart ∙ sym a.2) ∙ sym there
