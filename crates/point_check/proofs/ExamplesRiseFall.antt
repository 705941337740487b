-- Breaks between a rise and the next fall of a clock, and what is none, worked out on paper.
use Prim.Native.String.{String}
use Rattle.std.proofs.Common.{ℕ, List, [], ◌∷◌, length, refl, arith}
use Rattle.std.proofs.lemmas.Bool.{true≢false}
use Rattle.scald_base.specs.Signal.{Signal}
use Rattle.element_kinds.specs.declared.kind.Kind.TheVariants.{RiseFall}
use Rattle.flat_circuit.specs.declared.instance.Instance.{Instance}
use Rattle.flat_circuit.specs.Run.{Run}
use Rattle.flat_circuit.proofs.RunTables.{on, bits}
use Rattle.flat_circuit.specs.declared.limits.Limits.TheVariants.{Edges}
use Rattle.gate_eval.proofs.PermitExamples.{signal}
use Rattle.fixpoint_engine.proofs.WrittenRuns.{element, run_of}
use Rattle.point_check.specs.Break.{IsHighTo}
use Rattle.point_check.proofs.Literal.{Breaks, broken, unbroken, high_to, found, no_rise_fall, no_fall}

-- a checker of this setup and hold, of a clock on net 0 and an input on net 1
abbrev checker : ℕ → ℕ → Instance
checker setup hold = element RiseFall (Edges setup hold) (on 0 ∷ on 1 ∷ [])

-- the clock and the input, tick by tick, after wires of these delays
abbrev behind : List ℕ → String → String → Run
behind wires clock input = run_of (length (bits clock)) wires (bits clock ∷ bits input ∷ [])

abbrev run : String → String → Run
run clock input = behind (0 ∷ 0 ∷ []) clock input

-- ---- the clock is high from tick 3 to tick 5, and the window of setup 2 and hold 1 has the ticks
-- 2 to 6

first_tick : Breaks (checker 2 1) (run "00011000" "00111111") 0
first_tick = broken record { edge = 3; fall = 5; change = 2; at = search (found, high_to) }

before_it : ¬ Breaks (checker 2 1) (run "00011000" "01111111") 0
before_it =
    unbroken (no_rise_fall 3 5 1 refl (high_to 3 5 (omega arith) (refl, refl) refl refl) refl
    (λ at. omega (arith, at.not_before)))

while_high : Breaks (checker 2 1) (run "00011000" "00001111") 0
while_high = broken record { edge = 3; fall = 5; change = 4; at = search (found, high_to) }

input_falls : Breaks (checker 2 1) (run "00011000" "11110000") 0
input_falls = broken record { edge = 3; fall = 5; change = 4; at = search (found, high_to) }

at_the_fall : Breaks (checker 2 0) (run "00011000" "00000111") 0
at_the_fall = broken record { edge = 3; fall = 5; change = 5; at = search (found, high_to) }

after_the_fall : ¬ Breaks (checker 2 0) (run "00011000" "00000011") 0
after_the_fall =
    unbroken (no_rise_fall 3 5 6 refl (high_to 3 5 (omega arith) (refl, refl) refl refl) refl
    (λ at. omega (arith, at.not_after)))

last_tick : Breaks (checker 2 1) (run "00011000" "00000011") 0
last_tick = broken record { edge = 3; fall = 5; change = 6; at = search (found, high_to) }

after_it : ¬ Breaks (checker 2 1) (run "00011000" "00000001") 0
after_it =
    unbroken (no_rise_fall 3 5 7 refl (high_to 3 5 (omega arith) (refl, refl) refl refl) refl
    (λ at. omega (arith, at.not_after)))

-- the window of setup 0 begins after the rise
half_open : ¬ Breaks (checker 0 1) (run "00011000" "00011111") 0
half_open =
    unbroken (no_rise_fall 3 5 3 refl (high_to 3 5 (omega arith) (refl, refl) refl refl) refl
    (λ at. omega (arith, at.not_before)))

input_is_still : ¬ Breaks (checker 2 1) (run "00011000" "11111111") 0
input_is_still =
    unbroken (no_rise_fall 3 5 4 refl (high_to 3 5 (omega arith) (refl, refl) refl refl) refl
    (λ at. at.changes refl))

-- ---- a clock that is high for one tick

one_tick : Breaks (checker 0 0) (run "00010000" "00001111") 0
one_tick = broken record { edge = 3; fall = 4; change = 4; at = search (found, high_to) }

one_tick_before : ¬ Breaks (checker 0 0) (run "00010000" "00011111") 0
one_tick_before =
    unbroken (no_rise_fall 3 4 3 refl (high_to 3 4 (omega arith) (refl, refl) refl refl) refl
    (λ at. omega (arith, at.not_before)))

one_tick_after : ¬ Breaks (checker 0 0) (run "00010000" "00000111") 0
one_tick_after =
    unbroken (no_rise_fall 3 4 5 refl (high_to 3 4 (omega arith) (refl, refl) refl refl) refl
    (λ at. omega (arith, at.not_after)))

-- ---- each step is at the given tick or later, and in the run

rise_at_the_start : Breaks (checker 2 1) (run "00011000" "00001111") 3
rise_at_the_start = broken record { edge = 3; fall = 5; change = 4; at = search (found, high_to) }

rise_before_the_start : ¬ Breaks (checker 2 1) (run "00011000" "00001111") 4
rise_before_the_start =
    unbroken (no_rise_fall 3 5 4 refl (high_to 3 5 (omega arith) (refl, refl) refl refl) refl
    (λ at. omega (arith, at.edge_in.after)))

change_at_the_start : Breaks (checker 2 1) (run "00011000" "00111111") 2
change_at_the_start = broken record { edge = 3; fall = 5; change = 2; at = search (found, high_to) }

change_before_the_start : ¬ Breaks (checker 2 1) (run "00011000" "00111111") 3
change_before_the_start =
    unbroken (no_rise_fall 3 5 2 refl (high_to 3 5 (omega arith) (refl, refl) refl refl) refl
    (λ at. omega (arith, at.change_in.after)))

fall_at_the_end : Breaks (checker 2 1) (run "00011110" "00001111") 0
fall_at_the_end = broken record { edge = 3; fall = 7; change = 4; at = search (found, high_to) }

fall_past_the_end : ¬ Breaks (checker 2 1) (run "00011111" "00001111") 0
fall_past_the_end =
    unbroken (no_rise_fall 3 8 4 refl (high_to 3 8 (omega arith) (refl, refl) refl refl) refl
    (λ at. omega (arith, at.fall_in.ends)))

-- ---- wires

late_input : Breaks (checker 2 1) (behind (0 ∷ 3 ∷ []) "00111000" "01111111") 0
late_input = broken record { edge = 2; fall = 5; change = 4; at = search (found, high_to) }

late_clock : Breaks (checker 2 1) (behind (2 ∷ 0 ∷ []) "01100000" "00111111") 0
late_clock = broken record { edge = 3; fall = 5; change = 2; at = search (found, high_to) }

-- ---- from the rise to the next fall, and to no later one: this clock is high from 3 to 5 and from
-- 6 to 8

abbrev dips : Signal
dips = signal "000110110"

to_the_dip : IsHighTo dips 3 5
to_the_dip = high_to 3 5 (omega arith) (refl, refl) refl refl

not_over_it : ¬ IsHighTo dips 3 8
not_over_it = no_fall 5 refl (omega arith) (omega arith)

not_before_it : ¬ IsHighTo dips 3 4
not_before_it h = true≢false h.falls

not_from_high : ¬ IsHighTo dips 4 5
not_from_high h = true≢false h.rises.0

after_the_dip : IsHighTo dips 6 8
after_the_dip = high_to 6 8 (omega arith) (refl, refl) refl refl
