-- Which pins are open, and the notes on gates that let a clock through, worked out on paper.
use Rattle.std.specs.Prelude.{◌≡◌, ℕ, zero, suc, ◌==◌, nat_lt, Bool, true, false, ◌&&◌, ◌||◌, List, [], ◌∷◌, codes, map, Option, Some, None}
use Rattle.std.specs.Fmt.{digits}
use Rattle.std.proofs.Common.{refl}
use Rattle.scald_base.specs.declared.assertion.AssertSpec.TheVariants.{None as Unasserted, Precision, Clock, Stable}
use Rattle.scald_base.specs.declared.assertion.ClockSpec.{ClockSpec}
use Rattle.step_values.specs.declared.value.Value.{Value}
use Rattle.step_values.specs.declared.value.Value.TheVariants.{Zero, One, S, C, R, F}
use Rattle.skew_algebra.specs.Wave.{Wave}
use Rattle.element_kinds.specs.declared.kind.Kind.{Kind}
use Rattle.element_kinds.specs.declared.kind.Kind.TheVariants.{Buf, And, Or, Xor, Mux2, Mux4, Mux8, Chg, Reg, RegRs, Latch, LatchRs, SetupHold, RiseFall, MinPulse}
use Rattle.flat_circuit.specs.declared.instance.Pin.{Pin}
use Rattle.flat_circuit.specs.declared.limits.Limits.TheVariants.{None as Unlimited, Pulses}
use Rattle.flat_circuit.specs.Circuit.{Circuit}
use Rattle.fixpoint_engine.specs.Waves.{Waves}
use Rattle.timing_analysis.specs.Case.{Case}
use Rattle.drawing_notes.specs.Passing.{is_heard, is_shut, makes}
use Rattle.drawing_notes.specs.Search.{Over, At_start, By_step}
use Rattle.drawing_notes.specs.Unmarked.{TellsClocks, TellsTimed, asserts_clock, is_clock, is_gated, is_timing, unmarked, unmarked_line}
use Rattle.drawing_notes.specs.Paths.{leads}
use Rattle.drawing_omissions.proofs.ExamplesParts.{header, high, instance, on, turned}
use Rattle.drawing_notes.proofs.ExamplesCircuit.{three, net}

-- ---- waves: net 0 is a clock, net 1 what its case says, and all others are high

abbrev wave : List Value → Wave Value
wave cells = record { cells = cells; skew = 0 }

abbrev with : List Value → Waves
with cells zero = wave (Zero ∷ R ∷ One ∷ F ∷ [])
with cells (suc zero) = wave cells
with cells (suc (suc i)) = wave (One ∷ One ∷ One ∷ One ∷ [])

abbrev low : List Value
low = Zero ∷ Zero ∷ Zero ∷ Zero ∷ []

abbrev moving : List Value
moving = S ∷ S ∷ C ∷ S ∷ []

abbrev still : List Value
still = S ∷ S ∷ S ∷ S ∷ []

-- ---- data that selects exclude

-- of two pieces of data a select at 0 excludes the second, and a complement of it the first
of_two : (is_shut (with low) (instance (codes "m1") Mux2 Unlimited (on 1 ∷ on 0 ∷ on 0 ∷ []) None) 0 ≡ false)
    × (is_shut (with low) (instance (codes "m1") Mux2 Unlimited (on 1 ∷ on 0 ∷ on 0 ∷ []) None) 1 ≡ false)
    × (is_shut (with low) (instance (codes "m1") Mux2 Unlimited (on 1 ∷ on 0 ∷ on 0 ∷ []) None) 2 ≡ true)
    × (is_shut (with low) (instance (codes "m1") Mux2 Unlimited (turned 1 ∷ on 0 ∷ on 0 ∷ []) None) 1 ≡ true)
    × (is_shut (with low) (instance (codes "m1") Mux2 Unlimited (turned 1 ∷ on 0 ∷ on 0 ∷ []) None) 2 ≡ false)
of_two = (refl, refl, refl, refl, refl)

-- a select that is still, but of which nothing more is known, excludes none, and none is excluded of other gates
of_an_unknown_level : (is_shut (with still) (instance (codes "m1") Mux2 Unlimited (on 1 ∷ on 0 ∷ on 0 ∷ []) None) 2 ≡ false)
    × (is_shut (with low) (instance (codes "a1") And Unlimited (on 1 ∷ on 0 ∷ on 0 ∷ []) None) 2 ≡ false)
of_an_unknown_level = (refl, refl)

-- the first of two selects takes the third and the fourth where it is 1, as a constant is here, and
-- the second takes every other
abbrev four : ℕ → Bool
four place = is_shut (with low) (instance (codes "m1") Mux4 Unlimited (high ∷ on 1 ∷ on 0 ∷ on 0 ∷ on 0 ∷ on 0 ∷ []) None) place

of_four : (four 2 ≡ true) × (four 3 ≡ true) × (four 4 ≡ false) × (four 5 ≡ true)
of_four = (refl, refl, refl, refl)

-- ---- UNMARKED: a gate of A, the clock, and of B, which drives C

abbrev first_net : ℕ → Bool
first_net i = i == 0

abbrev last_net : ℕ → Bool
last_net i = i == 2

abbrev case : List Value → Case
case cells = record { listed = record { number = 0; values = [] }; rounds = 0; waves = with cells }

abbrev marked : Pin → Pin
marked p = record { target = p.target; inverted = p.inverted; hold = true }

abbrev gate : Kind → List Pin → Circuit
gate kind pins = three (instance (codes "g1") kind Unlimited pins (Some 2) ∷ []) None None (Some 0)

abbrev noted : Circuit → List Case → List (List ℕ)
noted c cases = unmarked c first_net last_net cases

abbrev at_pin_one : List (List ℕ)
at_pin_one = codes "NOTE UNMARKED g1<0> PIN 1 B<0>\n" ∷ []

without_a_mark : (noted (gate And (on 0 ∷ on 1 ∷ [])) (case moving ∷ []) ≡ at_pin_one)
    × (noted (gate Or (turned 0 ∷ turned 1 ∷ [])) (case low ∷ case moving ∷ []) ≡ at_pin_one)
    × (noted (gate Mux2 (on 2 ∷ on 1 ∷ on 0 ∷ [])) (case moving ∷ case low ∷ []) ≡ at_pin_one)
unfolding digits unmarked_line
without_a_mark = (refl, refl, refl)

no_note : (noted (gate And (marked (on 0) ∷ on 1 ∷ [])) (case moving ∷ []) ≡ [])
    × (noted (gate And (on 0 ∷ on 1 ∷ [])) (case still ∷ case low ∷ []) ≡ [])
    × (noted (gate And (on 0 ∷ high ∷ [])) (case moving ∷ []) ≡ [])
    × (noted (gate And (on 1 ∷ on 1 ∷ [])) (case moving ∷ []) ≡ [])
    × (noted (gate Xor (on 0 ∷ on 1 ∷ [])) (case moving ∷ []) ≡ [])
    × (unmarked (gate And (on 0 ∷ on 1 ∷ [])) first_net first_net (case moving ∷ []) ≡ [])
    × (unmarked (gate And (on 0 ∷ on 1 ∷ [])) last_net last_net (case moving ∷ []) ≡ [])
no_note = (refl, refl, refl, refl, refl, refl, refl)

-- a kind that needs no mark
neither_and_nor_or : (noted (gate Buf (on 0 ∷ on 1 ∷ [])) (case moving ∷ []) ≡ [])
    × (noted (gate Chg (on 0 ∷ on 1 ∷ [])) (case moving ∷ []) ≡ [])
neither_and_nor_or = (refl, refl)

-- B is still, and C may change
abbrev elsewhere : Waves
elsewhere zero = wave (Zero ∷ R ∷ One ∷ F ∷ [])
elsewhere (suc zero) = wave still
elsewhere (suc (suc i)) = wave moving

abbrev third_moves : Case
third_moves = record { listed = record { number = 1; values = [] }; rounds = 0; waves = elsewhere }

-- the first of all cases, be it in the first or in the last of them
first_that_changes : (noted (gate And (on 0 ∷ on 1 ∷ turned 1 ∷ [])) (case moving ∷ []) ≡ at_pin_one)
    × (noted (gate And (on 0 ∷ on 1 ∷ on 2 ∷ [])) (third_moves ∷ case moving ∷ []) ≡ at_pin_one)
    × (noted (gate Mux4 (on 0 ∷ on 1 ∷ on 2 ∷ [])) (case moving ∷ third_moves ∷ []) ≡ at_pin_one)
    × (noted (gate Mux8 (on 2 ∷ on 1 ∷ on 0 ∷ [])) (case moving ∷ []) ≡ at_pin_one)
unfolding digits unmarked_line
first_that_changes = (refl, refl, refl, refl)

-- in one and the same case: here A is the enable, and B the clock
abbrev second_net : ℕ → Bool
second_net i = i == 1

not_in_one_case : (unmarked (gate And (on 0 ∷ on 1 ∷ [])) second_net last_net (case low ∷ []) ≡ [])
    × (unmarked (gate And (on 0 ∷ on 1 ∷ [])) second_net last_net (case low ∷ case moving ∷ [])
    ≡ codes "NOTE UNMARKED g1<0> PIN 0 A<0>\n" ∷ [])
unfolding digits unmarked_line
not_in_one_case = (refl, refl)

-- ---- the pin of a checker of pulses times what a gate drives, and no pin else

abbrev with_checker : ℕ → Circuit
with_checker i = three (
    instance (codes "g1") And Unlimited (on 0 ∷ on 1 ∷ []) (Some 2)
    ∷ instance (codes "w1") MinPulse (Pulses 1 1) (on i ∷ []) None ∷ []) None None (Some 0)

timing : (is_timing (with_checker 2) 2 ≡ true) × (is_timing (with_checker 2) 0 ≡ false)
    × (is_timing (with_checker 0) 2 ≡ false) × (is_timing (with_checker 0) 0 ≡ false)
timing = (refl, refl, refl, refl)

-- at the first pin of storage and of every checker, and at no other
abbrev timed_by : List Pin → Kind → Bool
timed_by pins kind = is_timing (three (
    instance (codes "g1") And Unlimited (on 0 ∷ on 1 ∷ []) (Some 2)
    ∷ instance (codes "e1") kind Unlimited pins None ∷ []) None None (Some 0)) 2

abbrev timers : List Kind
timers = Reg ∷ RegRs ∷ Latch ∷ LatchRs ∷ SetupHold ∷ RiseFall ∷ MinPulse ∷ []

first_pins : (map (timed_by (on 2 ∷ on 1 ∷ [])) timers
    ≡ true ∷ true ∷ true ∷ true ∷ true ∷ true ∷ true ∷ [])
    × (map (timed_by (on 1 ∷ on 2 ∷ [])) timers
    ≡ false ∷ false ∷ false ∷ false ∷ false ∷ false ∷ false ∷ [])
    × (map (timed_by (on 2 ∷ on 1 ∷ [])) (Buf ∷ And ∷ Chg ∷ []) ≡ false ∷ false ∷ false ∷ [])
first_pins = (refl, refl, refl)

-- ---- clocks, and what they go through

abbrev driven_by : Kind → Bool
driven_by kind = is_gated (gate kind (on 0 ∷ on 1 ∷ [])) 2

through_gates_alone : (map driven_by (Buf ∷ And ∷ Or ∷ Xor ∷ Mux2 ∷ Mux4 ∷ Mux8 ∷ [])
    ≡ true ∷ true ∷ true ∷ true ∷ true ∷ true ∷ true ∷ [])
    × (map driven_by (Chg ∷ Reg ∷ RegRs ∷ Latch ∷ LatchRs ∷ [])
    ≡ false ∷ false ∷ false ∷ false ∷ false ∷ [])
    × (is_gated (gate And (on 0 ∷ on 1 ∷ [])) 0 ≡ false)
through_gates_alone = (refl, refl, refl)

abbrev middle : ClockSpec
middle = record { spans = record { lo = 2; hi = 3 } ∷ []; skew = None; low = false }

which_are_clocks : map asserts_clock (Unasserted ∷ Precision middle ∷ Clock middle ∷ Stable [] ∷ [])
    ≡ false ∷ true ∷ true ∷ false ∷ []
which_are_clocks = refl

-- from A, a clock, by one element to B, by another to C, and there a checker of pulses
abbrev chain : Kind → Kind → Circuit
chain first second = record {
  header = header;
  nets = net (codes "A") (Clock middle) 2 None ∷ net (codes "B") Unasserted 2 (Some 0)
      ∷ net (codes "C") Unasserted 7 (Some 1) ∷ [];
  instances = instance (codes "g1") first Unlimited (on 0 ∷ []) (Some 1)
      ∷ instance (codes "g2") second Unlimited (on 1 ∷ []) (Some 2)
      ∷ instance (codes "w1") MinPulse (Pulses 1 1) (on 2 ∷ []) None ∷ [];
  order = 0 ∷ 1 ∷ 2 ∷ [];
}

clocks_reach_all : (clocks : ℕ → Bool) → TellsClocks (chain And Xor) clocks →
    (clocks 0 ≡ true) × (clocks 1 ≡ true) × (clocks 2 ≡ true)
clocks_reach_all clocks tells = (
  (tells 0).1 (At_start refl),
  (tells 1).1 (By_step {from = 0} (At_start refl) refl refl),
  (tells 2).1 (By_step {from = 1} (By_step {from = 0} (At_start refl) refl refl) refl refl),
)

not_past_a_change : (clocks : ℕ → Bool) → TellsClocks (chain Chg Buf) clocks → ¬ (clocks 1 ≡ true)
not_past_a_change clocks tells is = none ((tells 1).0 is)
  where
    none : ¬ Over (leads (chain Chg Buf)) (is_gated (chain Chg Buf)) (is_clock (chain Chg Buf)) 1
    none (At_start start) = cc
    none (By_step inner led inside) = cc

checkers_are_reached : (timed : ℕ → Bool) → TellsTimed (chain And Xor) timed →
    (timed 2 ≡ true) × (timed 1 ≡ true)
checkers_are_reached timed tells =
    ((tells 2).1 (At_start refl), (tells 1).1 (By_step {from = 2} (At_start refl) refl refl))

not_what_none_drives : (timed : ℕ → Bool) → TellsTimed (chain And Xor) timed → ¬ (timed 0 ≡ true)
not_what_none_drives timed tells is = none ((tells 0).0 is)
  where
    none : ¬ Over (λ from i. leads (chain And Xor) i from) (is_gated (chain And Xor)) (is_timing (chain And Xor)) 0
    none (At_start start) = cc
    none (By_step inner led inside) = cc

-- ---- rises and falls: of a rise a rise and a fall, and of a fall a rise and a fall

abbrev made : Kind → ℕ → Pin → List Bool
made kind place p =
    let j = instance (codes "g1") kind Unlimited (p ∷ []) (Some 2) in
    makes j place p true true ∷ makes j place p true false
    ∷ makes j place p false true ∷ makes j place p false false ∷ []

abbrev same_way : List Bool
same_way = true ∷ false ∷ false ∷ true ∷ []

abbrev other_way : List Bool
other_way = false ∷ true ∷ true ∷ false ∷ []

abbrev either_way : List Bool
either_way = true ∷ true ∷ true ∷ true ∷ []

one_direction : (made Buf 0 (on 0) ≡ same_way) × (made And 0 (on 0) ≡ same_way)
    × (made Or 1 (turned 0) ≡ other_way) × (made Mux2 1 (on 0) ≡ same_way)
    × (made Mux4 2 (turned 0) ≡ other_way) × (made Mux8 3 (on 0) ≡ same_way)
one_direction = (refl, refl, refl, refl, refl, refl)

both_directions : (made Xor 0 (on 0) ≡ either_way) × (made Chg 0 (on 0) ≡ either_way)
    × (made Mux2 0 (on 0) ≡ either_way) × (made Mux4 1 (on 0) ≡ either_way)
    × (made Mux8 2 (turned 0) ≡ either_way)
both_directions = (refl, refl, refl, refl, refl)

-- ---- where the rule of a mark holds, the marked pin alone is heard, and no data that is excluded

abbrev heard : Bool → Kind → ℕ → Pin → Bool
heard held kind place p =
    is_heard held (with low) (instance (codes "g1") kind Unlimited (on 1 ∷ on 0 ∷ p ∷ []) None) place p

heard_beside_a_mark : (heard true And 2 (on 0) ≡ false) × (heard true And 2 (marked (on 0)) ≡ true)
    × (heard false And 2 (on 0) ≡ true) × (heard false Mux2 2 (on 0) ≡ false)
heard_beside_a_mark = (refl, refl, refl, refl)
