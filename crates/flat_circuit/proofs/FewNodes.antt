-- An order has no more nodes than there are.
use Rattle.std.proofs.Common.{◌≡◌, ℕ, zero, suc, ◌<◌, ◌≤◌, true, false, inl, inr, eqb, List, [], ◌∷◌, length, get_or, sym, arith, subst}
use Rattle.std.specs.List.{All, AllByRecursion, IsDistinct, list_any}
use Rattle.std.proofs.lemmas.Bool.{eqb-true, ne_eqb, or_cases}
use Rattle.std.proofs.lemmas.Map.Steps.{length-le_from_distinct_below}
use Rattle.flat_circuit.specs.Sorted.{IsSorted}

apart : (x : ℕ) (xs : List ℕ) → ((j : ℕ) → j < length xs → get_or xs j 0 ≡ x → ⊥) → AllByRecursion (λ y. eqb x y ≡ false) xs
apart x [] other = tt
apart x (y ∷ ys) other = (ne_eqb x y (λ same. other zero (omega arith) (sym same)), apart x ys (λ j below same. other (suc j) (omega (arith, below)) same))

distinct : (xs : List ℕ) → ((a b : ℕ) → a < length xs → b < length xs → get_or xs a 0 ≡ get_or xs b 0 → a ≡ b) → IsDistinct eqb xs
unfolding IsDistinct
distinct [] once = tt
distinct (x ∷ xs) once = (
  apart x xs (λ j below same. let no = once (suc j) zero (omega (arith, below)) (omega arith) same in omega (arith, no)),
  distinct xs (λ a b below below' same. let one = once (suc a) (suc b) (omega (arith, below)) (omega (arith, below')) same in omega (arith, one)),
)

inside_below : (n : ℕ) (xs : List ℕ) → All (λ k. k < n) xs → (q : ℕ) → list_any (eqb q) xs ≡ true → q < n
inside_below n [] inside q is = absurd cc
inside_below n (x ∷ xs) inside q is = elim (or_cases (eqb q x) (list_any (eqb q) xs) is) [
  | inl here ↦ subst (λ k. k < n) (sym (eqb-true q x here)) (inside zero 0 (omega arith))
  | inr later ↦ inside_below n xs (λ k d below. inside (suc k) d (omega (arith, below))) q later
]

pub order_few : (feeders : ℕ → List ℕ) (n : ℕ) (order : List ℕ) → IsSorted feeders n order → length order ≤ n
order_few feeders n order sorted = length-le_from_distinct_below order n (distinct order sorted.placed.once) (inside_below n order sorted.inside)
