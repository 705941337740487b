-- How far the cell of a slot goes on.
use Rattle.std.proofs.Common.{Bool, true, false, not, ◌≡◌, ℕ, ◌+◌, ◌<◌, ◌≤◌, ◌⊎◌, inl, inr, List, slice_get, Some, ap, ◌∙◌, arith}
use Rattle.std.specs.Prelude.{unwrap_or}
use Rattle.scald_base.proofs.Below.{below_or_last}

-- the slots from one on to before another have one cell
abbrev pub AreSame : {T : Type 0} → List T → ℕ → ℕ → Type 0
AreSame cells slot end = (p : ℕ) → slot ≤ p → p < end → slice_get cells p ≡ slice_get cells slot

pub is_no_other : (b : Bool) → true ≡ not b → b ≡ true → ⊥
is_no_other true h e = absurd cc
is_no_other false h e = absurd cc

pub held : {T : Type 0} (x y : T) → Some x ≡ Some y → x ≡ y
held x y e = ap (λ o. unwrap_or o x) e

module _ {T : Type 0} (cells : List T) (slot : ℕ) where
  pub one : AreSame cells slot (slot + 1)
  one p from below = let e : p ≡ slot = omega (arith, from, below) in ap (slice_get cells) e

  pub grown : (next : ℕ) → AreSame cells slot next → slice_get cells next ≡ slice_get cells slot → AreSame cells slot (next + 1)
  grown next same is p from below = go (below_or_last p next below)
    where
      go : ((p < next) ⊎ (p ≡ next)) → slice_get cells p ≡ slice_get cells slot
      go (inl h) = same p from h
      go (inr h) = ap (slice_get cells) h ∙ is
