-- Bits that were written by hand, and the ticks with which breaks end in them: each kind of break, met
-- and just not met. Tick 0 stands first.
use Rattle.std.proofs.Common.{◌≡◌, ℕ, zero, suc, Bool, true, false, leb, List, [], ◌∷◌, map, refl, ap, ◌∙◌, arith}
use Rattle.std.proofs.lemmas.Option.{same_Some}
use Rattle.scald_base.specs.Time.{Header}
use Rattle.scald_base.specs.Clock.{back}
use Rattle.wave_core.specs.Slots.{earlier}
use Rattle.skew_algebra.specs.Wave.{normal}
use Rattle.vector_names.specs.declared.bits.Target.TheVariants.{Net as OnNet}
use Rattle.flat_circuit.specs.declared.instance.Pin.{Pin}
use Rattle.point_check.specs.Break.{HasMark}
use Rattle.scald_base.specs.declared.assertion.AssertSpec.{AssertSpec}
use Rattle.scald_base.specs.declared.assertion.AssertSpec.TheVariants.{Stable}
use Rattle.element_kinds.specs.declared.kind.Kind.{Kind}
use Rattle.element_kinds.specs.declared.kind.Kind.TheVariants.{And, SetupHold, RiseFall, MinPulse}
use Rattle.element_kinds.specs.declared.form.Check.{Check}
use Rattle.element_kinds.specs.declared.form.Check.TheVariants.{SetupHold as AboutRise, RiseFall as RiseToFall}
use Rattle.flat_circuit.specs.declared.instance.Instance.{Instance}
use Rattle.flat_circuit.proofs.RunTables.{bits, bounds, checker, element, input, on}
use Rattle.flat_circuit.specs.declared.limits.Limits.TheVariants.{Edges, Pulses}
use Rattle.flat_circuit.specs.declared.limits.Limits.{Limits}
use Rattle.trace_sim.specs.Choice.{Bits}
use Rattle.trace_tool.specs.Pass.{AssertionEnds, LetsThrough, MarkEnds, begins, pulse_ends, shown, window_ends}

abbrev six : List ℕ
six = 0 ∷ 1 ∷ 2 ∷ 3 ∷ 4 ∷ 5 ∷ []

-- a checker with these limits, its clock on net 0 and its input on net 1
abbrev checking : Kind → Limits → Instance
checking kind limits = record (checker kind (on 0 ∷ on 1 ∷ [])) { limits = limits }

abbrev straight : List ℕ
straight = 0 ∷ 0 ∷ []

-- at which ticks breaks of a setup or hold time end, from a tick on
abbrev windows : Check → Instance → List ℕ → ℕ → Bits → List Bool
windows check i wires from bits =
    map (window_ends check i.limits (begins from wires 0) (shown bits i wires 0) (begins from wires 1) (shown bits i wires 1)) six

-- ---- setup and hold

abbrev setup : ℕ → Instance
setup ticks = checking SetupHold (Edges ticks 0)

abbrev hold : ℕ → Instance
hold ticks = checking SetupHold (Edges 0 ticks)

-- the clock rises at 3, and the input changes at 2
abbrev before_the_rise : Bits
before_the_rise = bits "000111" ∷ bits "001111" ∷ []

changes_in_setup : windows AboutRise (setup 2) straight 0 before_the_rise ≡ bits "000100"
changes_in_setup = refl

changes_before_setup : windows AboutRise (setup 1) straight 0 before_the_rise ≡ bits "000000"
changes_before_setup = refl

-- it names ticks 2 and 3
setup_names_both : windows AboutRise (setup 2) straight 2 before_the_rise ≡ bits "000100"
setup_names_both = refl

setup_begins_too_soon : windows AboutRise (setup 2) straight 3 before_the_rise ≡ bits "000000"
setup_begins_too_soon = refl

-- the clock rises at 1, and the input changes at 3
abbrev after_the_rise : Bits
after_the_rise = bits "011111" ∷ bits "000111" ∷ []

changes_in_hold : windows AboutRise (hold 2) straight 0 after_the_rise ≡ bits "000100"
changes_in_hold = refl

changes_after_hold : windows AboutRise (hold 1) straight 0 after_the_rise ≡ bits "000000"
changes_after_hold = refl

-- at one tick: a setup of 0 allows it, if the hold is 0 the setup alone does not
abbrev together : Bits
together = bits "001111" ∷ bits "001111" ∷ []

both_at_once : windows AboutRise (setup 1) straight 0 together ≡ bits "001000"
both_at_once = refl

none_at_once : windows AboutRise (setup 0) straight 0 together ≡ bits "000000"
none_at_once = refl

-- a wire's delay makes the rise a tick later
late_clock : windows AboutRise (setup 3) (1 ∷ 0 ∷ []) 0 before_the_rise ≡ bits "000010"
late_clock = refl

late_clock_in_time : windows AboutRise (setup 2) (1 ∷ 0 ∷ []) 0 before_the_rise ≡ bits "000000"
late_clock_in_time = refl

-- ---- from a rise to a fall

abbrev high : Limits → Instance
high limits = checking RiseFall limits

-- the clock is 1 at ticks 2 and 3
abbrev pulse_with : List Bool → Bits
pulse_with input = bits "001100" ∷ input ∷ []

-- the break ends with the fall, which it names
changes_while_high : windows RiseToFall (high (Edges 0 0)) straight 0 (pulse_with (bits "000111")) ≡ bits "000010"
changes_while_high = refl

changes_after_fall : windows RiseToFall (high (Edges 0 1)) straight 0 (pulse_with (bits "000001")) ≡ bits "000001"
changes_after_fall = refl

held_long_enough : windows RiseToFall (high (Edges 0 0)) straight 0 (pulse_with (bits "000001")) ≡ bits "000000"
held_long_enough = refl

changes_before_high : windows RiseToFall (high (Edges 2 0)) straight 0 (pulse_with (bits "011111")) ≡ bits "000010"
changes_before_high = refl

set_up_in_time : windows RiseToFall (high (Edges 1 0)) straight 0 (pulse_with (bits "011111")) ≡ bits "000000"
set_up_in_time = refl

-- a rise without a fall opens none
never_falls : windows RiseToFall (high (Edges 2 2)) straight 0 (bits "001111" ∷ bits "000101" ∷ []) ≡ bits "000000"
never_falls = refl

-- ---- widths

abbrev width : Limits → ℕ → Bits → List Bool
width limits from bits = map (pulse_ends limits (begins from (0 ∷ []) 0) (shown bits (checking MinPulse limits) (0 ∷ []) 0)) six

abbrev clock : Bits
clock = bits "010001" ∷ bits "000000" ∷ []

too_narrow : width (Pulses 2 0) 0 clock ≡ bits "001000"
too_narrow = refl

wide_enough : width (Pulses 1 0) 0 clock ≡ bits "000000"
wide_enough = refl

-- the low pulse from 2 to 5
too_narrow_low : width (Pulses 0 4) 0 clock ≡ bits "000001"
too_narrow_low = refl

wide_enough_low : width (Pulses 0 3) 0 clock ≡ bits "000000"
wide_enough_low = refl

-- it names tick 1 too
named_too_soon : width (Pulses 2 0) 2 clock ≡ bits "000000"
named_too_soon = refl

-- ---- marks

-- an AND, whose first pin is marked: beside a 0 of it the other pin does not matter
abbrev marked_and : Instance
marked_and = element And (bounds 0 0) (record { target = OnNet 0; inverted = false; hold = true } ∷ on 1 ∷ []) 2

changes_beside_one : MarkEnds (bits "111" ∷ bits "001" ∷ []) marked_and straight false 0 2
changes_beside_one = record {
  marked = 0;
  lets = record {
    is_marked = record { pin = record { target = OnNet 0; inverted = false; hold = true }; pin_is = refl; holds = refl };
    counts = omega arith;
    leaves = λ both. let high = both.0 in cc;
  };
  other = record { pin = 1; below = omega arith; apart = λ same. omega arith; changes = refl };
}

-- the second pin has no mark
only_the_first : (marked : ℕ) → HasMark marked_and marked → marked ≡ 0
only_the_first zero h = refl
only_the_first (suc zero) h = absurd (cc (ap (λ (p : Pin). p.hold) (same_Some (on 1) h.pin h.pin_is) ∙ h.holds))
only_the_first (suc (suc more)) h = absurd (let is = h.pin_is in cc)

changes_beside_zero : MarkEnds (bits "000" ∷ bits "001" ∷ []) marked_and straight false 0 2 → ⊥
changes_beside_zero m = by m.marked (only_the_first m.marked m.lets.is_marked) m.lets
  where
    by : (marked : ℕ) → marked ≡ 0 → LetsThrough (bits "000" ∷ bits "001" ∷ []) marked_and straight false 0 2 marked → ⊥
    by zero same lets = lets.leaves (refl, refl)
    by (suc more) same lets = absurd (omega arith)

-- ---- assertions

-- eight slots; it is to stay as it is from slot 2 up to slot 6, but for the step into slot 2
abbrev eight : Header
eight = record { units = 8; ticks = 1; wire = bounds 0 0; pskew = (0, 0); cskew = (0, 0) }

abbrev still : AssertSpec
still = Stable (record { lo = 2; hi = 6 } ∷ [])

abbrev steps_at : ℕ → ℕ → Bool
steps_at tick t = leb tick t

steps_inside : AssertionEnds eight still (steps_at 3) 0 3
unfolding back earlier normal
steps_inside = record { after = omega arith; begins = omega arith; lacks = refl }

steps_inside_later : AssertionEnds eight still (steps_at 11) 0 11
unfolding back earlier normal
steps_inside_later = record { after = omega arith; begins = omega arith; lacks = refl }

steps_into_it : AssertionEnds eight still (steps_at 2) 0 2 → ⊥
unfolding back earlier normal
steps_into_it a = absurd (let lacks = a.lacks in cc)

stays_inside : AssertionEnds eight still (steps_at 3) 0 4 → ⊥
unfolding back earlier normal
stays_inside a = absurd (let lacks = a.lacks in cc)
