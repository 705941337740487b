-- Whether any of some items passes, with one item more.
use Rattle.std.proofs.Common.{◌≡◌, ℕ, zero, suc, ◌+◌, ◌||◌, Bool, true, false, List, [], ◌∷◌, take, refl, sym, ap, ◌∙◌, arith, slice_get, Option, Some, None}
use Rattle.std.specs.List.{list_any}
use Rattle.std.proofs.Math.Bool.{or-false, or_assoc}

-- of the item at a number; past the last there is none, which does not pass
module _ {X : Type 0} (p : X → Bool) (at : Option X → Bool) (none : at None ≡ false) (some : (x : X) → p x ≡ at (Some x)) where
  any_suc : (xs : List X) (k : ℕ) → list_any p (take (suc k) xs) ≡ (list_any p (take k xs) || at (slice_get xs k))
  any_suc [] zero = sym none
  any_suc [] (suc k) = sym none
  any_suc (x ∷ xs) zero = or-false (p x) ∙ some x
  any_suc (x ∷ xs) (suc k) = ap (λ b. p x || b) (any_suc xs k) ∙ sym (or_assoc (p x) (list_any p (take k xs)) (at (slice_get xs k)))

  pub any_more : (xs : List X) (k : ℕ) → list_any p (take (k + 1) xs) ≡ (list_any p (take k xs) || at (slice_get xs k))
  any_more xs k = ap (λ n. list_any p (take n xs)) (let e : k + 1 ≡ suc k = omega arith in e) ∙ any_suc xs k

-- a bit that adds nothing
pub kept_same : (a b : Bool) → (b ≡ true → a ≡ true) → a ≡ (a || b)
kept_same true b then_ = refl
kept_same false true then_ = then_ refl
kept_same false false then_ = refl
