-- Breaks of setup and hold, and what is none, worked out on paper.
use Prim.Native.String.{String}
use Rattle.std.proofs.Common.{ℕ, List, [], ◌∷◌, length, refl, arith}
use Rattle.std.proofs.lemmas.Bool.{true≢false}
use Rattle.element_kinds.specs.declared.kind.Kind.TheVariants.{SetupHold}
use Rattle.flat_circuit.specs.declared.instance.Pin.{Pin}
use Rattle.flat_circuit.specs.declared.instance.Instance.{Instance}
use Rattle.flat_circuit.specs.Run.{Run}
use Rattle.flat_circuit.proofs.RunTables.{on, not_on, bits}
use Rattle.flat_circuit.specs.declared.limits.Limits.TheVariants.{Edges, Pulses}
use Rattle.fixpoint_engine.proofs.WrittenRuns.{element, alone, run_of}
use Rattle.point_check.specs.Break.{BreaksInstance}
use Rattle.point_check.proofs.Literal.{Breaks, broken, unbroken, found, no_setup_hold, nowhere}

-- a checker of this setup and hold, of a clock and an input at these pins
abbrev of_pins : List Pin → ℕ → ℕ → Instance
of_pins pins setup hold = element SetupHold (Edges setup hold) pins

abbrev checker : ℕ → ℕ → Instance
checker setup hold = of_pins (on 0 ∷ on 1 ∷ []) setup hold

-- the clock and the input, tick by tick, after wires of these delays
abbrev behind : List ℕ → String → String → Run
behind wires clock input = run_of (length (bits clock)) wires (bits clock ∷ bits input ∷ [])

abbrev run : String → String → Run
run clock input = behind (0 ∷ 0 ∷ []) clock input

-- ---- the clock rises at tick 4, and the window of setup 2 and hold 1 has the ticks 3 to 5

first_tick : Breaks (checker 2 1) (run "00001100" "00011111") 0
first_tick = broken record { edge = 4; change = 3; at = search found }

before_it : ¬ Breaks (checker 2 1) (run "00001100" "00111111") 0
before_it = unbroken (no_setup_hold 4 2 refl refl (λ at. omega (arith, at.not_before)))

last_tick : Breaks (checker 2 1) (run "00001100" "00000111") 0
last_tick = broken record { edge = 4; change = 5; at = search found }

after_it : ¬ Breaks (checker 2 1) (run "00001100" "00000011") 0
after_it = unbroken (no_setup_hold 4 6 refl refl (λ at. omega (arith, at.not_after)))

input_falls : Breaks (checker 2 1) (run "00001100" "11100000") 0
input_falls = broken record { edge = 4; change = 3; at = search found }

input_is_still : ¬ Breaks (checker 2 1) (run "00001100" "11111111") 0
input_is_still = unbroken (no_setup_hold 4 4 refl refl (λ at. at.changes refl))

clock_falls : ¬ Breaks (checker 2 1) (run "11110000" "00001111") 0
clock_falls = unbroken (no_setup_hold 4 4 refl refl (λ at. true≢false at.rises.0))

-- ---- the change comes with the edge

at_the_edge : Breaks (checker 1 0) (run "00001100" "00001111") 0
at_the_edge = broken record { edge = 4; change = 4; at = search found }

-- the window of setup 0 begins after the edge
half_open : ¬ Breaks (checker 0 1) (run "00001100" "00001111") 0
half_open = unbroken (no_setup_hold 4 4 refl refl (λ at. omega (arith, at.not_before)))

after_the_edge : Breaks (checker 0 1) (run "00001100" "00000111") 0
after_the_edge = broken record { edge = 4; change = 5; at = search found }

no_hold : ¬ Breaks (checker 3 0) (run "00001100" "00000111") 0
no_hold = unbroken (no_setup_hold 4 5 refl refl (λ at. omega (arith, at.not_after)))

-- ---- both steps are at the given tick or later

edge_at_the_start : Breaks (checker 2 1) (run "00001100" "00000111") 4
edge_at_the_start = broken record { edge = 4; change = 5; at = search found }

edge_before_the_start : ¬ Breaks (checker 2 1) (run "00001100" "00000111") 5
edge_before_the_start =
    unbroken (no_setup_hold 4 5 refl refl (λ at. omega (arith, at.edge_in.after)))

change_at_the_start : Breaks (checker 2 1) (run "00001100" "00011111") 3
change_at_the_start = broken record { edge = 4; change = 3; at = search found }

change_before_the_start : ¬ Breaks (checker 2 1) (run "00001100" "00011111") 4
change_before_the_start =
    unbroken (no_setup_hold 4 3 refl refl (λ at. omega (arith, at.change_in.after)))

-- ---- the ends of the run

first_step : Breaks (checker 1 0) (run "01" "01") 0
first_step = broken record { edge = 1; change = 1; at = search found }

last_step : Breaks (checker 1 0) (run "00000001" "00000001") 0
last_step = broken record { edge = 7; change = 7; at = search found }

change_past_the_end : ¬ Breaks (checker 1 1) (run "00000001" "11111111") 0
change_past_the_end =
    unbroken (no_setup_hold 7 8 refl refl (λ at. omega (arith, at.change_in.ends)))

edge_past_the_end : ¬ Breaks (checker 2 0) (run "00000000" "00000001") 0
edge_past_the_end = unbroken (no_setup_hold 8 7 refl refl (λ at. omega (arith, at.edge_in.ends)))

-- ---- wires and complements: the clock rises at tick 3 of its net, and the input changes at tick 1

no_wires : ¬ Breaks (checker 2 1) (behind (0 ∷ 0 ∷ []) "00011000" "01111111") 0
no_wires = unbroken (no_setup_hold 3 1 refl refl (λ at. omega (arith, at.not_before)))

late_input : Breaks (checker 2 1) (behind (0 ∷ 1 ∷ []) "00011000" "01111111") 0
late_input = broken record { edge = 3; change = 2; at = search found }

late_input_last : Breaks (checker 2 1) (behind (0 ∷ 3 ∷ []) "00011000" "01111111") 0
late_input_last = broken record { edge = 3; change = 4; at = search found }

late_input_after : ¬ Breaks (checker 2 1)
    (behind (0 ∷ 4 ∷ []) "00011000" "01111111") 0
late_input_after = unbroken (no_setup_hold 3 5 refl refl (λ at. omega (arith, at.not_after)))

late_clock : ¬ Breaks (checker 2 1) (behind (1 ∷ 1 ∷ []) "00011000" "01111111") 0
late_clock = unbroken (no_setup_hold 4 2 refl refl (λ at. omega (arith, at.not_before)))

both_late : Breaks (checker 2 1) (behind (1 ∷ 2 ∷ []) "00011000" "01111111") 3
both_late = broken record { edge = 4; change = 3; at = search found }

-- a wire of 2 shows the first step of its net at tick 3
first_of_late : Breaks (checker 1 0) (behind (2 ∷ 2 ∷ []) "0111" "0111") 0
first_of_late = broken record { edge = 3; change = 3; at = search found }

-- the step of the input is earlier than any of the clock can be
early_input : Breaks (checker 3 0) (behind (2 ∷ 0 ∷ []) "0111" "0111") 0
early_input = broken record { edge = 3; change = 1; at = search found }

complemented_clock : Breaks (of_pins (not_on 0 ∷ on 1 ∷ []) 2 1)
    (run "11110000" "00001111") 0
complemented_clock = broken record { edge = 4; change = 4; at = search found }

complemented_rise : ¬ Breaks (of_pins (not_on 0 ∷ on 1 ∷ []) 2 1)
    (run "00001111" "00001111") 0
complemented_rise = unbroken (no_setup_hold 4 4 refl refl (λ at. true≢false at.rises.0))

complemented_input : Breaks (of_pins (on 0 ∷ not_on 1 ∷ []) 2 1)
    (run "00001111" "00001111") 0
complemented_input = broken record { edge = 4; change = 4; at = search found }

-- ---- limits of pulses are none of edges

other_limits : ¬ Breaks (element SetupHold (Pulses 8 8) (on 0 ∷ on 1 ∷ []))
    (run "00001100" "00001111") 0
other_limits = unbroken (no_setup_hold 4 4 refl refl (λ at. omega (arith, at.not_before)))

-- ---- an instance that is not there

missing : ¬ BreaksInstance (alone (checker 2 1)) (run "00001100" "00011111") 1 0
missing = nowhere _ _ 1 0 refl
