-- The slots that code computes one by one.
use Rattle.std.proofs.Common.{◌≡◌, ℕ, ◌+◌, ◌-◌, ◌%◌, ◌<◌, Bool, true, false, List, length, refl, sym, ap, ◌∙◌, arith, cond}
use Rattle.std.proofs.Math.Nat.{mod-add-mod}
use Rattle.scald_base.specs.Time.{Header, period}
use Rattle.scald_base.specs.Clock.{ideal, back}
use Rattle.scald_base.specs.Quiet.{quiet}
use Rattle.scald_base.specs.declared.assertion.Span.{Span}
use Rattle.scald_base.specs.declared.assertion.ClockSpec.{ClockSpec}
use Rattle.scald_base.proofs.Back.{back_one, back_zero}
use Rattle.step_values.specs.declared.value.Value.{Value}
use Rattle.step_values.specs.declared.value.Value.TheVariants.{Zero, One, S, C}
use Rattle.step_values.specs.Steps.{has}
use Rattle.step_values.specs.Cell.{values}
use Rattle.wave_core.specs.Slots.{slots, earlier}
use Rattle.wave_core.proofs.Slots.{length_slots, earlier_slots}
use Rattle.skew_algebra.specs.Permits.{Permits}
use Rattle.pin_waves.specs.Interface.{step_value, ideal_slots, sooner, constant_wave}

-- a step of the ideal clock, by the slot before as code finds it
pub clock_slot : (h : Header) (c : ClockSpec) (p slot : ℕ) (before after : Bool) → p ≡ period h →
    before ≡ ideal c h ((slot + (p - 1)) % p) → after ≡ ideal c h slot →
    step_value before after ≡ step_value (ideal c h (back (period h) slot 1)) (ideal c h slot)
clock_slot h c p slot before after e b a =
    let at : (slot + (p - 1)) % p ≡ back (period h) slot 1 = ap (λ (z : ℕ). (slot + (z - 1)) % z) e ∙ sym (back_one (period h) slot) in
    let b' : before ≡ ideal c h (back (period h) slot 1) = b ∙ ap (ideal c h) at in
    λ i. step_value (b' i) (a i)

-- what the list of a clock that comes early has in a slot
abbrev pub early_slot : Header → ClockSpec → ℕ → ℕ → Value
early_slot h c early slot = earlier values (ideal_slots h c) (slot + early) 0

-- the slot of the ideal clock that comes early, as code finds it
pub slot_is_early : (h : Header) (c : ClockSpec) (p early slot : ℕ) (v : Value) → p ≡ period h → 0 < period h →
    v ≡ step_value (ideal c h (back (period h) ((slot + early % p) % p) 1)) (ideal c h ((slot + early % p) % p)) → v ≡ early_slot h c early slot
slot_is_early h c p early slot v e pos is =
    let f : ℕ → Value = λ (t : ℕ). step_value (ideal c h (back (period h) t 1)) (ideal c h t) in
    let turn : slot + early % p ≡ early % p + slot = omega arith in
    let turn' : early + slot ≡ slot + early = omega arith in
    let at : (slot + early % p) % p ≡ back (period h) (slot + early) 0 =
    ap (λ (z : ℕ). z % p) turn ∙ mod-add-mod early p slot ∙ ap (λ (z : ℕ). z % p) turn'
    ∙ ap (λ (z : ℕ). (slot + early) % z) e ∙ sym (back_zero (period h) (slot + early)) in
    is ∙ ap f at ∙ sym (earlier_slots values (period h) f (slot + early) 0 pos)

-- all of them
pub early_slots : (h : Header) (c : ClockSpec) (early n : ℕ) (cells : List Value) → n ≡ period h →
    cells ≡ slots n (early_slot h c early) → cells ≡ sooner (ideal_slots h c) early
early_slots h c early n cells e is =
    let long : length (ideal_slots h c) ≡ period h = length_slots (period h) _ in
    is ∙ ap (λ (z : ℕ). slots z (early_slot h c early)) (e ∙ sym long)

-- ---- nets that are stable

abbrev pub stable_slot : Header → List Span → ℕ → Value
stable_slot h spans slot = cond (quiet spans h slot) S C

-- ---- nets that are constant

constant_has : (one : Bool) → has (cond one One Zero) one one ≡ true
constant_has true = refl
constant_has false = refl

pub Permits_constant : (h : Header) (one : Bool) (n v : ℕ) → 0 < period h → Permits values (constant_wave h one) n (λ t. one) v
Permits_constant h one n v pos =
    record {
      offset = 0;
      within = omega arith;
      steps = λ t t1 tv tn.
          ap (λ c. has c one one) (earlier_slots values (period h) (λ p. cond one One Zero) t 0 pos) ∙ constant_has one;
    }
