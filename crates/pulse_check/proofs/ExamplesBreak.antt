-- Breaks of a pulse's width, and what is none, worked out on paper.
use Prim.Native.String.{String}
use Rattle.std.proofs.Common.{ℕ, true, false, [], ◌∷◌, length, refl, arith}
use Rattle.scald_base.specs.Signal.{Signal}
use Rattle.element_kinds.specs.declared.kind.Kind.TheVariants.{Buf, And, Or, Xor, Mux2, Mux4, Mux8, Chg, Reg, RegRs, Latch, LatchRs, SetupHold, RiseFall, MinPulse}
use Rattle.flat_circuit.specs.declared.instance.Instance.{Instance}
use Rattle.flat_circuit.specs.Run.{Run}
use Rattle.flat_circuit.proofs.RunTables.{on, not_on, bits}
use Rattle.flat_circuit.specs.declared.limits.Limits.TheVariants.{Edges, Pulses}
use Rattle.gate_eval.proofs.PermitExamples.{signal}
use Rattle.fixpoint_engine.proofs.WrittenRuns.{alone, element, run_of}
use Rattle.pulse_check.specs.Break.{IsPulse, BreaksPulse}
use Rattle.pulse_check.proofs.Literal.{Breaks, broken, unbroken, found, pulse_to, no_pulse, no_width, no_step, nowhere}

-- a checker of high pulses of this least width, and low ones of that
abbrev checker : ℕ → ℕ → Instance
checker high low = element MinPulse (Pulses high low) (on 0 ∷ [])

-- the net, tick by tick, after a wire of this delay
abbrev behind : ℕ → String → Run
behind wire x = run_of (length (bits x)) (wire ∷ []) (bits x ∷ [])

abbrev run : String → Run
run x = behind 0 x

-- ---- high pulses

high_narrow : Breaks (checker 3 0) (run "00011000") true 0
high_narrow = broken record { start = 3; end = 5; at = search found }

high_enough : ¬ Breaks (checker 3 0) (run "00011100") true 0
high_enough =
    unbroken (no_width 3 6 refl (pulse_to 3 6 (omega arith) refl refl refl)
    (λ at. omega (arith, at.narrow)))

high_wide : ¬ Breaks (checker 3 0) (run "00011110") true 0
high_wide =
    unbroken (no_width 3 7 refl (pulse_to 3 7 (omega arith) refl refl refl)
    (λ at. omega (arith, at.narrow)))

high_for_a_tick : Breaks (checker 2 0) (run "00010000") true 0
high_for_a_tick = broken record { start = 3; end = 4; at = search found }

limit_one : ¬ Breaks (checker 1 0) (run "00010000") true 0
limit_one =
    unbroken (no_width 3 4 refl (pulse_to 3 4 (omega arith) refl refl refl)
    (λ at. omega (arith, at.narrow)))

limit_zero : ¬ Breaks (checker 0 0) (run "00010000") true 0
limit_zero =
    unbroken (no_width 3 4 refl (pulse_to 3 4 (omega arith) refl refl refl)
    (λ at. omega (arith, at.narrow)))

-- ---- low pulses, by the second limit

low_narrow : Breaks (checker 0 3) (run "11100111") false 0
low_narrow = broken record { start = 3; end = 5; at = search found }

low_enough : ¬ Breaks (checker 0 3) (run "11100011") false 0
low_enough =
    unbroken (no_width 3 6 refl (pulse_to 3 6 (omega arith) refl refl refl)
    (λ at. omega (arith, at.narrow)))

low_for_a_tick : Breaks (checker 0 2) (run "11101111") false 0
low_for_a_tick = broken record { start = 3; end = 4; at = search found }

low_limit_one : ¬ Breaks (checker 0 1) (run "11101111") false 0
low_limit_one =
    unbroken (no_width 3 4 refl (pulse_to 3 4 (omega arith) refl refl refl)
    (λ at. omega (arith, at.narrow)))

low_by_its_own : ¬ Breaks (checker 8 2) (run "11100111") false 0
low_by_its_own =
    unbroken (no_width 3 5 refl (pulse_to 3 5 (omega arith) refl refl refl)
    (λ at. omega (arith, at.narrow)))

high_by_its_own : ¬ Breaks (checker 2 8) (run "00011000") true 0
high_by_its_own =
    unbroken (no_width 3 5 refl (pulse_to 3 5 (omega arith) refl refl refl)
    (λ at. omega (arith, at.narrow)))

-- ---- a pulse begins and ends with a step of the run

low_at_no_end : ¬ Breaks (checker 8 8) (run "00011111") false 0
low_at_no_end = unbroken (no_step refl)

-- it was high before the run, as far as the run says
high_from_the_first : ¬ Breaks (checker 8 8) (run "11100000") true 0
high_from_the_first = unbroken (no_step refl)

high_to_the_end : ¬ Breaks (checker 8 8) (run "00011111") true 0
high_to_the_end =
    unbroken (no_width 3 8 refl (pulse_to 3 8 (omega arith) refl refl refl)
    (λ at. omega (arith, at.end_in.ends)))

ends_in_the_last_tick : Breaks (checker 8 8) (run "00011110") true 0
ends_in_the_last_tick = broken record { start = 3; end = 7; at = search found }

first_step : Breaks (checker 2 0) (run "010") true 0
first_step = broken record { start = 1; end = 2; at = search found }

-- ---- both steps are at the given tick or later

from_the_start : Breaks (checker 3 0) (run "00011000") true 3
from_the_start = broken record { start = 3; end = 5; at = search found }

before_the_start : ¬ Breaks (checker 3 0) (run "00011000") true 4
before_the_start =
    unbroken (no_width 3 5 refl (pulse_to 3 5 (omega arith) refl refl refl)
    (λ at. omega (arith, at.start_in.after)))

low_from_the_start : Breaks (checker 0 3) (run "11100111") false 3
low_from_the_start = broken record { start = 3; end = 5; at = search found }

low_before_the_start : ¬ Breaks (checker 0 3) (run "11100111") false 4
low_before_the_start =
    unbroken (no_width 3 5 refl (pulse_to 3 5 (omega arith) refl refl refl)
    (λ at. omega (arith, at.start_in.after)))

-- ---- wires and complements

-- a wire of 2 shows the first step of its net at tick 3
late : Breaks (checker 3 0) (behind 2 "01100000") true 3
late = broken record { start = 3; end = 5; at = search found }

late_but_early : ¬ Breaks (checker 3 0) (behind 2 "01100000") true 4
late_but_early =
    unbroken (no_width 3 5 refl (pulse_to 3 5 (omega arith) refl refl refl)
    (λ at. omega (arith, at.start_in.after)))

complemented : Breaks (element MinPulse (Pulses 3 0) (not_on 0 ∷ [])) (run "11100111") true 0
complemented = broken record { start = 3; end = 5; at = search found }

complemented_low : ¬ Breaks (element MinPulse (Pulses 8 8) (not_on 0 ∷ [])) (run "11100000") false 0
complemented_low = unbroken (no_step refl)

-- ---- a glitch ends the pulse: this signal is high from 3 to 4 and from 5 to 7

abbrev glitch : Signal
glitch = signal "000101100"

to_the_glitch : IsPulse glitch true 3 4
to_the_glitch = pulse_to 3 4 (omega arith) refl refl refl

the_glitch : IsPulse glitch false 4 5
the_glitch = pulse_to 4 5 (omega arith) refl refl refl

not_over_it : ¬ IsPulse glitch true 3 7
not_over_it = no_pulse 4 refl (omega arith) (omega arith)

behind_it : IsPulse glitch true 5 7
behind_it = pulse_to 5 7 (omega arith) refl refl refl

narrow_by_a_glitch : Breaks (checker 2 0) (run "000101111") true 0
narrow_by_a_glitch = broken record { start = 3; end = 4; at = search found }

-- ---- limits of edges are none of pulses

other_limits : ¬ Breaks (element MinPulse (Edges 8 8) (on 0 ∷ [])) (run "00010000") true 0
other_limits =
    unbroken (no_width 3 4 refl (pulse_to 3 4 (omega arith) refl refl refl)
    (λ at. omega (arith, at.narrow)))

-- ---- other instances have no widths, and a missing one has none

not_of_buf : ¬ Breaks (element Buf (Pulses 8 8) (on 0 ∷ [])) (run "00011000") true 0
not_of_buf = unbroken (λ b. b)

not_of_and : ¬ Breaks (element And (Pulses 8 8) (on 0 ∷ [])) (run "00011000") true 0
not_of_and = unbroken (λ b. b)

not_of_or : ¬ Breaks (element Or (Pulses 8 8) (on 0 ∷ [])) (run "00011000") true 0
not_of_or = unbroken (λ b. b)

not_of_xor : ¬ Breaks (element Xor (Pulses 8 8) (on 0 ∷ [])) (run "00011000") true 0
not_of_xor = unbroken (λ b. b)

not_of_mux2 : ¬ Breaks (element Mux2 (Pulses 8 8) (on 0 ∷ [])) (run "00011000") true 0
not_of_mux2 = unbroken (λ b. b)

not_of_mux4 : ¬ Breaks (element Mux4 (Pulses 8 8) (on 0 ∷ [])) (run "00011000") true 0
not_of_mux4 = unbroken (λ b. b)

not_of_mux8 : ¬ Breaks (element Mux8 (Pulses 8 8) (on 0 ∷ [])) (run "00011000") true 0
not_of_mux8 = unbroken (λ b. b)

not_of_chg : ¬ Breaks (element Chg (Pulses 8 8) (on 0 ∷ [])) (run "00011000") true 0
not_of_chg = unbroken (λ b. b)

not_of_reg : ¬ Breaks (element Reg (Pulses 8 8) (on 0 ∷ [])) (run "00011000") true 0
not_of_reg = unbroken (λ b. b)

not_of_regrs : ¬ Breaks (element RegRs (Pulses 8 8) (on 0 ∷ [])) (run "00011000") true 0
not_of_regrs = unbroken (λ b. b)

not_of_latch : ¬ Breaks (element Latch (Pulses 8 8) (on 0 ∷ [])) (run "00011000") true 0
not_of_latch = unbroken (λ b. b)

not_of_latchrs : ¬ Breaks (element LatchRs (Pulses 8 8) (on 0 ∷ [])) (run "00011000") true 0
not_of_latchrs = unbroken (λ b. b)

not_of_setuphold : ¬ Breaks (element SetupHold (Pulses 8 8) (on 0 ∷ [])) (run "00011000") true 0
not_of_setuphold = unbroken (λ b. b)

not_of_risefall : ¬ Breaks (element RiseFall (Pulses 8 8) (on 0 ∷ [])) (run "00011000") true 0
not_of_risefall = unbroken (λ b. b)

not_of_a_missing_one : ¬ BreaksPulse (alone (checker 8 8)) (run "00011000") 1 true 0
not_of_a_missing_one = nowhere _ _ 1 true 0 refl
