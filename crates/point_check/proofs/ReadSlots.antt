-- Slots before others, as code computes them.
use Rattle.std.proofs.Common.{◌≡◌, ℕ, ◌+◌, ◌-◌, ◌%◌, ◌<◌, ◌≤◌, sym, ap, ◌∙◌, arith}
use Rattle.scald_base.specs.Clock.{back}
use Rattle.scald_base.proofs.Back.{back_zero, back_later, back_mod, period_later}

-- so many slots back, as code computes it
pub slot_back : (p t setup : ℕ) → 0 < p → setup ≤ p → (t + (p - setup)) % p ≡ back p t setup
slot_back p t setup pos l =
    let x : ℕ = t + (p - setup) in
    let whole : x + setup ≡ t + p = omega arith in
    let none : setup + 0 ≡ setup = omega arith in
    sym (back_zero p x) ∙ sym (back_later p x setup 0 pos) ∙ ap (λ (z : ℕ). back p z (setup + 0)) whole ∙ ap (back p (t + p)) none
    ∙ sym (back_mod p (t + p) setup) ∙ ap (λ (z : ℕ). back p z setup) (period_later p t) ∙ back_mod p t setup
