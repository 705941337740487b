-- Tests of the first numbers, and of the items of a list from one on.
use Rattle.std.proofs.Common.{◌≡◌, ℕ, zero, suc, ◌+◌, ◌<◌, ◌≤◌, ◌||◌, Bool, true, false, cond, List, [], ◌∷◌, length, drop, get_or, refl, sym, ap, ◌∙◌, arith, inl, inr, Option, Some, None}
use Rattle.std.specs.List.{list_any, position_from, range_with_len}
use Rattle.std.proofs.Math.Bool.{or-false}
use Rattle.std.proofs.lemmas.Bool.{cases_lt, or_left, or_right}
use Rattle.std.proofs.lemmas.List.{at_drop_all, drop_more}
use Rattle.std.proofs.lemmas.List.Folds.{list_any-append}
use Rattle.vector_names.proofs.Ranges.{range_more}

pub any_more_of : (p : ℕ → Bool) (n : ℕ) → list_any p (range_with_len 0 (n + 1)) ≡ (list_any p (range_with_len 0 n) || p n)
any_more_of p n =
    ap (list_any p) (range_more 0 n n (omega arith)) ∙ list_any-append p (range_with_len 0 n) (n ∷ [])
    ∙ ap (λ b. list_any p (range_with_len 0 n) || b) (or-false (p n))

pub any_before : (p : ℕ → Bool) (n : ℕ) (b : Bool) → list_any p (range_with_len 0 n) ≡ false → p n ≡ b → list_any p (range_with_len 0 (n + 1)) ≡ b
any_before p n b none is = any_more_of p n ∙ (λ k. none k || is k)

-- one of the first numbers passes
pub any_at : (p : ℕ → Bool) (n k : ℕ) → k < n → p k ≡ true → list_any p (range_with_len 0 n) ≡ true
any_at p zero k below is = absurd (omega (arith, below))
any_at p (suc n) k below is =
    let one : suc n ≡ n + 1 = omega arith in
    ap (λ m. list_any p (range_with_len 0 m)) one ∙ any_more_of p n ∙ elim (cases_lt k n) [
      | inl less ↦ or_left _ _ (any_at p n k less is)
      | inr past ↦ let same : k ≡ n = omega (arith, below, past) in or_right _ _ (sym (ap p same) ∙ is)
    ]

-- ---- the first place, one item after the other

module _ {X : Type 0} (p : X → Bool) (xs : List X) (d : X) (k : ℕ) (below : k < length xs) where
  pub here_first : position_from p k (drop k xs) ≡ position_from p 0 xs → p (get_or xs k d) ≡ true → position_from p 0 xs ≡ Some k
  here_first so_far is =
      sym so_far ∙ ap (position_from p k) (drop_more xs k d below) ∙ ap (λ b. cond b (Some k) (position_from p (k + 1) (drop (k + 1) xs))) is

  pub not_here : position_from p k (drop k xs) ≡ position_from p 0 xs → p (get_or xs k d) ≡ false →
      position_from p (k + 1) (drop (k + 1) xs) ≡ position_from p 0 xs
  not_here so_far is =
      sym (ap (λ b. cond b (Some k) (position_from p (k + 1) (drop (k + 1) xs))) is) ∙ sym (ap (position_from p k) (drop_more xs k d below)) ∙ so_far

-- no item passes where none is left
pub nowhere : {X : Type 0} (p : X → Bool) (xs : List X) (k : ℕ) → length xs ≤ k → position_from p k (drop k xs) ≡ position_from p 0 xs → None ≡ position_from p 0 xs
nowhere p xs k past so_far = sym (at_drop_all (position_from p k) xs k past) ∙ so_far
