-- What repeats each period, and the slots of places in a window.
use Rattle.std.proofs.Common.{◌≡◌, ℕ, zero, suc, ◌+◌, ◌*◌, ◌/◌, ◌%◌, ◌<◌, sym, ap, ◌∙◌, arith}
use Rattle.std.proofs.Math.Nat.{add-mul-mod_self_right, mod-add-div'}
use Rattle.scald_base.specs.Clock.{back}
use Rattle.scald_base.proofs.Back.{back_later, back_mod, back_zero}

module _ {A : Type 0} (p : ℕ) (f : ℕ → A) (cyclic : (t : ℕ) → f (t + p) ≡ f t) where
  pub periods_on : (n t : ℕ) → f (t + n * p) ≡ f t
  periods_on zero t = let at : t + 0 * p ≡ t = grind arith in ap f at
  periods_on (suc n) t =
      let at : t + suc n * p ≡ t + n * p + p = grind arith in
      ap f at ∙ cyclic (t + n * p) ∙ periods_on n t

  pub in_slot : (t : ℕ) → f (t % p) ≡ f t
  in_slot t = sym (periods_on (t / p) (t % p)) ∙ ap f (mod-add-div' t p)

-- A place of a window shows a tick, if so many periods lie between.
pub slot_is : (p t n place setup x : ℕ) → 0 < p → t + n * p + 1 + place ≡ x + setup →
    back p (t + 1 + place) setup ≡ x % p
slot_is p t n place setup x some e =
    let up : t + 1 + place + n * p ≡ x + setup = omega (arith, e) in
    let none : setup ≡ setup + 0 = omega arith in
    sym (back_mod p (t + 1 + place) setup)
    ∙ ap (λ (z : ℕ). back p z setup) (sym (add-mul-mod_self_right (t + 1 + place) n p) ∙ ap (λ (z : ℕ). z % p) up)
    ∙ back_mod p (x + setup) setup
    ∙ ap (λ (z : ℕ). back p (x + setup) z) none
    ∙ back_later p x setup 0 some
    ∙ back_zero p x
