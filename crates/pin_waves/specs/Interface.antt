-- The waves of nets that nothing drives: by their assertion, or constant.
use Rattle.std.specs.Prelude.{ℕ, ◌+◌, ◌-◌, Bool, true, false, min, List, [], length, if◌then◌else◌}
use Rattle.scald_base.specs.Time.{Header, period}
use Rattle.scald_base.specs.Clock.{ideal, back}
use Rattle.scald_base.specs.Quiet.{quiet}
use Rattle.scald_base.specs.Fitting.{skew_of}
use Rattle.scald_base.specs.Signal.{Signal}
use Rattle.scald_base.specs.declared.assertion.Span.{Span}
use Rattle.scald_base.specs.declared.assertion.ClockSpec.{ClockSpec}
use Rattle.scald_base.specs.declared.assertion.AssertSpec.{AssertSpec}
use Rattle.scald_base.specs.declared.assertion.AssertSpec.TheVariants.{None as Unasserted, Precision, Clock, Stable}
use Rattle.step_values.specs.declared.value.Value.{Value}
use Rattle.step_values.specs.declared.value.Value.TheVariants.{Zero, One, S, C, R, F}
use Rattle.step_values.specs.Cell.{values}
use Rattle.wave_core.specs.Slots.{slots, earlier}
use Rattle.skew_algebra.specs.Wave.{Wave, skewed, folded, normal}
use Rattle.skew_algebra.specs.Permits.{Permits}
use Rattle.pin_waves.specs.Meets.{Meets}

-- the value that permits this one step
abbrev pub step_value : Bool → Bool → Value
step_value false false = Zero
step_value true true = One
step_value false true = R
step_value true false = F

-- the slots of the ideal clock: R at a rise, F at a fall, 0 or 1 elsewhere
abbrev pub ideal_slots : Header → ClockSpec → List Value
ideal_slots h c = slots (period h) (λ p. step_value (ideal c h (back (period h) p 1)) (ideal c h p))

-- by so many slots sooner
abbrev pub sooner : List Value → ℕ → List Value
sooner cells by = slots (length cells) (λ p. earlier values cells (p + by) 0)

-- the ideal clock as early as it may come, and by how much later it may, which is less than a
-- period
abbrev pub skewed_clock : Header → ClockSpec → ℕ × ℕ → Wave Value
skewed_clock h c skew =
    skewed (sooner (ideal_slots h c) skew.0) (min (skew.0 + skew.1) (period h - 1))

-- A `.P` clock keeps its skew, since it comes early or late as a whole.
abbrev pub precision_wave : Header → ClockSpec → Wave Value
precision_wave h c = skewed_clock h c (skew_of c h.pskew)

-- The edges of a `.C` clock come early or late each by itself, so its skew is folded.
abbrev pub clock_wave : Header → ClockSpec → Wave Value
clock_wave h c = skewed (folded values (skewed_clock h c (skew_of c h.cskew))) 0

-- S in the quiet slots and C in the others
abbrev pub stable_wave : Header → List Span → Wave Value
stable_wave h spans = skewed (slots (period h) (λ p. if quiet spans h p then S else C)) 0

-- the wave of an assertion, before its normal form
abbrev pub asserted_wave : Header → AssertSpec → Wave Value
asserted_wave h Unasserted = stable_wave h []
asserted_wave h (Precision c) = precision_wave h c
asserted_wave h (Clock c) = clock_wave h c
asserted_wave h (Stable spans) = stable_wave h spans

-- the wave of an undriven net
abbrev pub interface_wave : Header → AssertSpec → Wave Value
interface_wave h a = normal values (asserted_wave h a)

-- the wave permits from tick 1 on each net that keeps the assertion
abbrev pub PermitsAsserted : Header → AssertSpec → Wave Value → Type 0
PermitsAsserted h a w = (n : ℕ) (x : Signal) → Meets h a n x → Permits values w n x 1

-- what each slot may hold of a net that keeps the assertion, driven or not
abbrev pub wide_wave : Header → AssertSpec → List Value
wide_wave h a = folded values (interface_wave h a)

-- the wave of a net that is 1, or 0, for ever
abbrev pub constant_wave : Header → Bool → Wave Value
constant_wave h one = skewed (slots (period h) (λ p. if one then One else Zero)) 0
