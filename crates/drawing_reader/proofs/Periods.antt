-- Units and ticks are not above the period.
use Rattle.std.proofs.Common.{◌≡◌, ℕ, ◌*◌, ◌≤◌, true, arith, ℤ, pos, negsuc, ◌*ℤ◌, ◌≤ℤ◌}
use Rattle.std.proofs.Math.Nat.{mul-le-mul_left}
use Rattle.std.proofs.lemmas.Int.{ints}
use Rattle.std.specs.Prelude.{int_le}

factor_below : (a b n : ℕ) → 1 ≤ b → a * b ≤ n → a ≤ n
factor_below a b n some within = let h : a * 1 ≤ a * b = mul-le-mul_left a some in omega arith

pub factors_below : (a b p : ℤ) → p ≡ a *ℤ b → int_le (pos 1) a ≡ true → int_le (pos 1) b ≡ true → int_le p (pos 4096) ≡ true → (pos 0 ≤ℤ a) × (a ≤ℤ pos 4096) × (pos 0 ≤ℤ b) × (b ≤ℤ pos 4096)
factors_below (pos a) (pos b) p e first second within =
    let some : 1 ≤ a = grind arith in let other : 1 ≤ b = grind arith in
    let whole : a * b ≤ 4096 = grind arith in
    let f = factor_below a b 4096 other whole in
    let swapped : b * a ≤ 4096 = omega arith in
    let g = factor_below b a 4096 some swapped in
    (omega (arith, ints), omega (arith, ints), omega (arith, ints), omega (arith, ints))
factors_below (pos a) (negsuc b) p e first second within = absurd (grind arith)
factors_below (negsuc a) b p e first second within = absurd (grind arith)
