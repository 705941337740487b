-- Numbers below one more.
use Rattle.std.proofs.Common.{◌≡◌, ℕ, ◌+◌, ◌<◌, ◌⊎◌, inl, inr, arith}
use Rattle.std.proofs.lemmas.Bool.{cases_eq}

pub below_or_last : (i n : ℕ) → i < n + 1 → (i < n) ⊎ (i ≡ n)
below_or_last i n below = elim (cases_eq i n) as (λ _. (i < n) ⊎ (i ≡ n)) [ inl e ↦ inr e | inr e ↦ inl (omega arith) ]
