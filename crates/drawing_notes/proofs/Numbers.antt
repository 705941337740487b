-- Lines by a number for each instance: only the numbers of instances that there are count.
use Rattle.std.proofs.Common.{◌≡◌, ℕ, zero, suc, ◌+◌, ◌<◌, List, [], ◌∷◌, ◌++◌, refl, sym, ap, ◌∙◌, arith, append-nil}
use Rattle.std.specs.List.{flat_map, range_with_len}
use Rattle.std.proofs.lemmas.List.Concat.{flat_map-append}
use Rattle.vector_names.proofs.Ranges.{range_more}

more : {X : Type 0} (f : ℕ → List X) (n : ℕ) → flat_map f (range_with_len 0 (n + 1)) ≡ flat_map f (range_with_len 0 n) ++ f n
more f n =
    ap (flat_map f) (range_more 0 n n (omega arith)) ∙ flat_map-append f (range_with_len 0 n) (n ∷ [])
    ∙ ap (λ l. flat_map f (range_with_len 0 n) ++ l) (append-nil (f n))

pub same_lines : (at : ℕ → ℕ → List (List ℕ)) (first second : ℕ → ℕ) (n : ℕ) → ((k : ℕ) → k < n → first k ≡ second k) →
    flat_map (λ k. at k (first k)) (range_with_len 0 n) ≡ flat_map (λ k. at k (second k)) (range_with_len 0 n)
same_lines at first second zero same = refl
same_lines at first second (suc n) same =
    let one : suc n ≡ n + 1 = omega arith in
    ap (λ m. flat_map (λ k. at k (first k)) (range_with_len 0 m)) one ∙ more (λ k. at k (first k)) n
    ∙ (λ t. same_lines at first second n (λ k below. same k (omega (arith, below))) t ++ at n (same n (omega arith) t))
    ∙ sym (more (λ k. at k (second k)) n) ∙ ap (λ m. flat_map (λ k. at k (second k)) (range_with_len 0 m)) (sym one)
