-- A list that was lent out and came back with the same length, and lists of one thing.
use Rattle.std.proofs.Common.{◌≡◌, ℕ, zero, suc, List, ◌++◌, length, take, get_or, replicate, refl, ◌∙◌, arith}
use Rattle.std.proofs.lemmas.List.{take-append-le, take_all}

pub written_back : {A : Type 0} (xs rest : List A) (n : ℕ) → length xs ≡ n → take n (xs ++ rest) ≡ xs
written_back xs rest n same = take-append-le n xs rest (omega (arith, same)) ∙ take_all n xs (omega (arith, same))

pub same_at : {A : Type 0} (x : A) (n i : ℕ) → get_or (replicate n x) i x ≡ x
same_at x zero i = refl
same_at x (suc n) zero = refl
same_at x (suc n) (suc i) = same_at x n i
