-- The wave of an assertion permits each signal that keeps it.
use Rattle.std.proofs.Common.{◌≡◌, ℕ, ◌+◌, ◌-◌, ◌<◌, ◌≤◌, min, Bool, true, List, [], length, refl, sym, ap, ◌∙◌, cond, arith, subst}
use Rattle.std.proofs.lemmas.Bool.{cond_both}
use Rattle.scald_base.specs.Time.{Header, period}
use Rattle.scald_base.specs.Clock.{ideal, back}
use Rattle.scald_base.specs.Quiet.{quiet}
use Rattle.scald_base.specs.Fitting.{skew_of}
use Rattle.scald_base.specs.Signal.{Signal}
use Rattle.scald_base.specs.declared.assertion.Span.{Span}
use Rattle.scald_base.specs.declared.assertion.AssertSpec.{AssertSpec}
use Rattle.scald_base.specs.declared.assertion.AssertSpec.TheVariants.{None as Unasserted, Precision, Clock, Stable}
use Rattle.scald_base.proofs.Back.{back_later}
use Rattle.step_values.specs.declared.value.Value.{Value}
use Rattle.step_values.specs.declared.value.Value.TheVariants.{S, C}
use Rattle.step_values.specs.Steps.{has}
use Rattle.step_values.specs.Cell.{values}
use Rattle.step_values.specs.Lawful.{values_lawful}
use Rattle.step_values.proofs.Permits.{still_has}
use Rattle.wave_core.proofs.Slots.{length_slots, earlier_slots}
use Rattle.skew_algebra.specs.Wave.{Wave, skewed}
use Rattle.skew_algebra.specs.Permits.{Permits}
use Rattle.skew_algebra.proofs.Normal.{length_normal}
use Rattle.skew_algebra.proofs.Moves.{Permits_capped, Permits_normal}
use Rattle.pin_waves.specs.Meets.{MeetsStable, Meets}
use Rattle.pin_waves.specs.Interface.{sooner, stable_wave, asserted_wave, interface_wave, PermitsAsserted}
use Rattle.pin_waves.proofs.ClockEdges.{step_has, step_slots, earlier_sooner_steps, length_sooner_steps, Permits_clock}

-- a clock that is shifted as a whole
Permits_shifted : (p : ℕ) (f : ℕ → Bool) (a b by n : ℕ) (x : Signal) → 0 < p → by ≤ a + b →
    ((t : ℕ) → t < n → x t ≡ f (back p (t + a) by)) →
    Permits values (skewed (sooner (step_slots p f) a) (min (a + b) (p - 1))) n x 1
Permits_shifted p f a b by n x pos within bits =
    let long : length (sooner (step_slots p f) a) ≡ p = length_sooner_steps p f a in
    subst (λ (l : ℕ). Permits values (skewed (sooner (step_slots p f) a) (min (a + b) (l - 1))) n x 1) long
    (Permits_capped values (sooner (step_slots p f) a) (a + b) (omega (arith, long)) n 1 x
    (record {
      offset = by;
      within = within;
      steps = λ t t1 tv tn.
          let now : x t ≡ f (back p (t + a) by) = bits t tn in
          let before : x (t - 1) ≡ f (back p (t + a) (by + 1)) =
          bits (t - 1) (omega arith)
          ∙ ap f (sym (back_later p (t - 1 + a) 1 by pos) ∙ ap (λ (z : ℕ). back p z (1 + by)) (omega arith) ∙ ap (back p (t + a)) (omega arith)) in
          ap (λ v. has v (x (t - 1)) (x t)) (earlier_sooner_steps p f a t by pos)
          ∙ rw (now, before) (step_has (f (back p (t + a) (by + 1))) (f (back p (t + a) by)));
    }))

-- a net that steps in no quiet slot
Permits_stable : (h : Header) (spans : List Span) (n : ℕ) (x : Signal) → 0 < period h → MeetsStable h spans n x → Permits values (stable_wave h spans) n x 1
Permits_stable h spans n x pos meets =
    record {
      offset = 0;
      within = omega arith;
      steps = λ t t1 tv tn.
          ap (λ v. has v (x (t - 1)) (x t)) (earlier_slots values (period h) (λ p. cond (quiet spans h p) S C) t 0 pos)
          ∙ cond_both (quiet spans h (back (period h) t 0)) S C (λ v. has v (x (t - 1)) (x t) ≡ true)
          (λ q. still_has (x (t - 1)) (x t) (meets t t1 tn q)) (λ q. refl);
    }

pub length_asserted : (h : Header) (a : AssertSpec) → length (asserted_wave h a).cells ≡ period h
length_asserted h Unasserted = length_slots (period h) _
length_asserted h (Precision c) = length_sooner_steps (period h) (ideal c h) (skew_of c h.pskew).0
length_asserted h (Clock c) = length_slots _ _ ∙ length_sooner_steps (period h) (ideal c h) (skew_of c h.cskew).0
length_asserted h (Stable spans) = length_slots (period h) _

Permits_asserted : (h : Header) (a : AssertSpec) (n : ℕ) (x : Signal) → 0 < period h → Meets h a n x → Permits values (asserted_wave h a) n x 1
Permits_asserted h Unasserted n x pos meets = Permits_stable h [] n x pos (λ t t1 tn q. meets t t1 tn)
Permits_asserted h (Precision c) n x pos meets =
    Permits_shifted (period h) (ideal c h) (skew_of c h.pskew).0 (skew_of c h.pskew).1 meets.by n x pos meets.within meets.bits
Permits_asserted h (Clock c) n x pos meets = Permits_clock h c n x pos meets
Permits_asserted h (Stable spans) n x pos meets = Permits_stable h spans n x pos meets

pub length_interface : (h : Header) (a : AssertSpec) → length (interface_wave h a).cells ≡ period h
length_interface h a = length_normal values (asserted_wave h a) ∙ length_asserted h a

-- The wave of an undriven net permits from tick 1 on each net that keeps the assertion.
pub Permits_interface : (h : Header) (a : AssertSpec) (n : ℕ) (x : Signal) → 0 < period h → Meets h a n x → Permits values (interface_wave h a) n x 1
Permits_interface h a n x pos meets =
    Permits_normal values values_lawful (asserted_wave h a) (let e : length (asserted_wave h a).cells ≡ period h = length_asserted h a in omega arith)
    n 1 x (Permits_asserted h a n x pos meets)

-- the same of the wave that code gives
pub permits_asserted : (h : Header) (a : AssertSpec) (w : Wave Value) → 0 < period h → w ≡ interface_wave h a → PermitsAsserted h a w
permits_asserted h a w pos e n x meets = subst (λ (z : Wave Value). Permits values z n x 1) (sym e) (Permits_interface h a n x pos meets)
