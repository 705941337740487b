-- Searches of which nothing passes find nothing.
use Rattle.std.proofs.Common.{◌≡◌, ℕ, zero, suc, ◌+◌, ◌-◌, ◌<◌, ◌≤◌, Bool, false, cond, refl, ap, ◌∙◌, arith, Some, None}
use Rattle.critical_paths.specs.Region.{first_from, last_up_to}

pub nothing_from : (test : ℕ → Bool) (n t : ℕ) → ((u : ℕ) → t ≤ u → u < t + n → test u ≡ false) → first_from test n t ≡ None
nothing_from test zero t none = refl
nothing_from test (suc n) t none =
    ap (λ (b : Bool). cond b (Some t) (first_from test n (t + 1))) (none t (omega arith) (omega arith))
    ∙ nothing_from test n (t + 1) (λ u from below. none u (omega (arith, from)) (omega (arith, below)))

pub nothing_up_to : (test : ℕ → Bool) (n t : ℕ) → ((u : ℕ) → u ≤ t → test u ≡ false) → last_up_to test n t ≡ None
nothing_up_to test zero t none = refl
nothing_up_to test (suc n) t none =
    ap (λ (b : Bool). cond b (Some t) (last_up_to test n (t - 1))) (none t (omega arith))
    ∙ nothing_up_to test n (t - 1) (λ u up_to. none u (omega (arith, up_to)))
