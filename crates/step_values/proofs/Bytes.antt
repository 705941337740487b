-- Sets of steps as bytes.
use Rattle.std.proofs.Common.{◌≡◌, ℕ, zero, suc, ◌<◌, Bool, true, false, ◌&&◌, ◌||◌, not, bit_or, refl, arith}
use Rattle.step_values.specs.StepSet.{in_set}

-- a test holds of each number below n
all_below : ℕ → (ℕ → Bool) → Bool
all_below zero p = true
all_below (suc n) p = p n && all_below n p

at_each : (n : ℕ) (p : ℕ → Bool) (m : ℕ) → all_below n p ≡ true → m < n → p m ≡ true
unfolding all_below
at_each zero p m all below = grind (arith, below)
at_each (suc n) p m all below =
    let here : p n ≡ true = grind (arith, all) in
    let rest : all_below n p ≡ true = grind (arith, all) in
    let go : m < n → p m ≡ true = at_each n p m rest in
    grind (arith, here, go, below)

same : Bool → Bool → Bool
same true b = b
same false b = not b

same_is : (a b : Bool) → same a b ≡ true → a ≡ b
unfolding same
same_is a b h = grind arith

-- the union of two bytes has the steps of either
union_at : Bool → Bool → ℕ → ℕ → Bool
union_at before after m n = same (in_set (bit_or m n) before after) (in_set m before after || in_set n before after)

union_all : (before after : Bool) → all_below 16 (λ m. all_below 16 (λ n. union_at before after m n)) ≡ true
unfolding all_below union_at same
union_all false false = refl
union_all false true = refl
union_all true false = refl
union_all true true = refl

pub union_has : (m n : ℕ) (before after : Bool) → m < 16 → n < 16 →
    in_set (bit_or m n) before after ≡ (in_set m before after || in_set n before after)
unfolding union_at
union_has m n before after m_below n_below =
    let row : all_below 16 (λ k. union_at before after m k) ≡ true =
    at_each 16 (λ j. all_below 16 (λ k. union_at before after j k)) m (union_all before after) m_below in
    same_is (in_set (bit_or m n) before after) (in_set m before after || in_set n before after)
    (at_each 16 (λ k. union_at before after m k) n row n_below)
