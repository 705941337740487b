-- Runs of one gate with two delays, worked out on paper. Net 0 is the output. Until the longer
-- delay and the longest wire have passed, its bits are free.
use Rattle.std.proofs.Common.{ℕ, true, false, List, [], ◌∷◌, map, refl, Some}
use Rattle.element_kinds.specs.declared.kind.Kind.{Kind}
use Rattle.element_kinds.specs.declared.kind.Kind.TheVariants.{Buf, And, Or, Xor, Mux2, Mux4, Mux8, Chg, Reg, RegRs, Latch, LatchRs, SetupHold, RiseFall, MinPulse}
use Rattle.flat_circuit.specs.declared.instance.Pin.{Pin}
use Rattle.flat_circuit.specs.declared.instance.Instance.{Instance}
use Rattle.flat_circuit.specs.declared.split.Split.{Split}
use Rattle.flat_circuit.specs.Circuit.{Circuit}
use Rattle.flat_circuit.specs.Run.{Run, Choice}
use Rattle.flat_circuit.proofs.RunTables.{bounds, input, driven_by, on, constant, element, split_element, two, complemented, checker, circuit, late, late_by_two, run, AreRuns, AreNone, Fixes, runs, none, fixes}
use Rattle.flat_circuit.proofs.ChoiceRuns.{pin_list}

abbrev between : Instance → Circuit
between i = circuit (driven_by 0 ∷ input ∷ input ∷ input ∷ []) (i ∷ [])

-- a gate whose rise and fall delays are up to 4 each, which drives net 0
abbrev gate : Kind → List Pin → Circuit
gate kind pins = between (split_element kind (two 0 4 0 4) pins 0)

abbrev of_one : ℕ → ℕ → ℕ → List Choice
of_one rise fall wire = late_by_two rise fall (wire ∷ []) ∷ []

-- ---- a slow rise: 3 to rise and 1 to fall

-- a pulse of four ticks loses two of them
shrinks : Fixes (gate Buf (on 1 ∷ [])) (run (of_one 3 1 0) (
    "10100110000" ∷
    "00111100000" ∷
    "00000000000" ∷
    "00000000000" ∷ [])) 0 "00011111111"
shrinks = fixes refl

-- the bits of the input that this pulse goes by: each of its own, and the one on either side
shrinks_by : Fixes (gate Buf (on 1 ∷ [])) (run (of_one 3 1 0) (
    "10100110000" ∷
    "00111100000" ∷
    "00000000000" ∷
    "00000000000" ∷ [])) 1 "01111110000"
shrinks_by = fixes refl

-- one of two ticks is swallowed, and one of three just passes
swallowed : Fixes (gate Buf (on 1 ∷ [])) (run (of_one 3 1 0) (
    "01000000000" ∷
    "00110000000" ∷
    "00000000000" ∷
    "00000000000" ∷ [])) 0 "00011111111"
swallowed = fixes refl

just_passes : Fixes (gate Buf (on 1 ∷ [])) (run (of_one 3 1 0) (
    "11100100000" ∷
    "00111000000" ∷
    "00000000000" ∷
    "00000000000" ∷ [])) 0 "00011111111"
just_passes = fixes refl

-- ---- a slow fall: 1 to rise and 3 to fall

grows : Fixes (gate Buf (on 1 ∷ [])) (run (of_one 1 3 0) (
    "11001110000" ∷
    "00010000000" ∷
    "00000000000" ∷
    "00000000000" ∷ [])) 0 "00011111111"
grows = fixes refl

-- a gap of two ticks is swallowed, and one of three is just seen
gap_swallowed : Fixes (gate Buf (on 1 ∷ [])) (run (of_one 1 3 0) (
    "00011111111" ∷
    "11001111111" ∷
    "00000000000" ∷
    "00000000000" ∷ [])) 0 "00011111111"
gap_swallowed = fixes refl

gap_seen : Fixes (gate Buf (on 1 ∷ [])) (run (of_one 1 3 0) (
    "00011011111" ∷
    "11000111111" ∷
    "00000000000" ∷
    "00000000000" ∷ [])) 0 "00011111111"
gap_seen = fixes refl

-- ---- equal delays are one, and there may be none

equal_delays : Fixes (gate Buf (on 1 ∷ [])) (run (of_one 2 2 0) (
    "10011010011" ∷
    "01101001110" ∷
    "00000000000" ∷
    "00000000000" ∷ [])) 0 "00111111111"
equal_delays = fixes refl

at_once : Fixes (gate Buf (on 1 ∷ [])) (run (of_one 0 0 0) (
    "0110100" ∷
    "0110100" ∷
    "0000000" ∷
    "0000000" ∷ [])) 0 "1111111"
at_once = fixes refl

-- ---- wires: from tick 5 on, for a longer delay of 3 and a wire of 2

slow_rise_by_wire : Fixes (gate Buf (on 1 ∷ [])) (run (of_one 3 1 2) (
    "11010011000" ∷
    "01111000000" ∷
    "00000000000" ∷
    "00000000000" ∷ [])) 0 "00000111111"
slow_rise_by_wire = fixes refl

slow_fall_by_wire : Fixes (gate Buf (on 1 ∷ [])) (run (of_one 1 3 2) (
    "10110110000" ∷
    "01000000000" ∷
    "00000000000" ∷
    "00000000000" ∷ [])) 0 "00000111111"
slow_fall_by_wire = fixes refl

-- One net on two pins, by a wire of 0 and a wire of 2. The AND of what it is and what it was two
-- ticks before is 1 at ticks 3 and 4, and falls a tick late.
two_wires_of_one_net : Fixes (gate And (on 1 ∷ on 1 ∷ []))
    (run (late_by_two 0 1 (0 ∷ 2 ∷ []) ∷ []) (
    "0001110" ∷
    "0111100" ∷
    "0000000" ∷
    "0000000" ∷ [])) 0 "0001111"
two_wires_of_one_net = fixes refl

-- An input that the select does not number is a pin too: from tick 4 on, by its wire of 3 and a
-- rise delay of 1.
unselected_pin_delays : Fixes (gate Mux2 (on 1 ∷ on 2 ∷ on 3 ∷ []))
    (run (late_by_two 1 0 (0 ∷ 0 ∷ 3 ∷ []) ∷ []) (
    "1011011" ∷
    "0000000" ∷
    "0110111" ∷
    "1010101" ∷ [])) 0 "0000111"
unselected_pin_delays = fixes refl

-- ---- the gate's own bit comes first: of all pins at one tick, and before the complement

-- this XOR is 1 at ticks 2, 3, 5 and 6
of_two_pins : Fixes (gate Xor (on 1 ∷ on 2 ∷ [])) (run (late_by_two 2 1 (0 ∷ 0 ∷ []) ∷ []) (
    "1100100" ∷
    "0011100" ∷
    "0000111" ∷
    "0000000" ∷ [])) 0 "0011111"
of_two_pins = fixes refl

-- The net falls after the rise delay of 2, where the gate's own output would rise.
complemented_output : Fixes
    (between (complemented (split_element Buf (two 0 4 0 4) (on 1 ∷ []) 0)))
    (run (of_one 2 0 0) (
    "0111001111" ∷
    "0011110000" ∷
    "0000000000" ∷
    "0000000000" ∷ [])) 0 "0011111111"
complemented_output = fixes refl

-- a constant passes on no tick before the longer delay, and every tick from there on
constant_one : Fixes (gate Buf (constant true ∷ [])) (run (of_one 2 1 0) (
    "01111" ∷
    "00000" ∷
    "00000" ∷
    "00000" ∷ [])) 0 "00111"
constant_one = fixes refl

constant_zero : Fixes (gate Buf (constant false ∷ [])) (run (of_one 1 3 0) (
    "11100" ∷
    "11111" ∷
    "11111" ∷
    "11111" ∷ [])) 0 "00011"
constant_zero = fixes refl

-- ---- the bounds of each delay: here 4 to 6 to rise, and 1 to 2 to fall

abbrev slow : Split
slow = two 4 6 1 2

abbrev with_split : Kind → Circuit
with_split kind = between (split_element kind slow (pin_list kind) 0)

abbrev no_wires : Kind → List ℕ
no_wires kind = map (λ pin. 0) (pin_list kind)

abbrev zeros : List Choice → List Run
zeros choices = map
    (λ choice. run (choice ∷ []) ("00000000" ∷ "00000000" ∷ "00000000" ∷ "00000000" ∷ [])) choices

-- a rise and a fall delay each, and any delay beside them
abbrev chosen : Kind → ℕ → List (ℕ × ℕ) → List Run
chosen kind delay pairs = zeros
    (map (λ (pair : ℕ × ℕ). record (late_by_two pair.0 pair.1 (no_wires kind)) { delay = delay })
    pairs)

-- both ends of both bounds, and one past each; and the one delay within the bounds of the other
abbrev HasTwoBounds : Kind → Type 0
HasTwoBounds kind = AreRuns (with_split kind)
    (chosen kind 9 ((4, 1) ∷ (6, 1) ∷ (4, 2) ∷ (6, 2) ∷ (5, 1) ∷ [])) × AreNone (with_split kind)
    (chosen kind 4 ((3, 1) ∷ (7, 1) ∷ (4, 0) ∷ (4, 3) ∷ (1, 4) ∷ (2, 6) ∷ []))

buffer_bounds : HasTwoBounds Buf
buffer_bounds = (runs refl, none refl)

and_bounds : HasTwoBounds And
and_bounds = (runs refl, none refl)

or_bounds : HasTwoBounds Or
or_bounds = (runs refl, none refl)

xor_bounds : HasTwoBounds Xor
xor_bounds = (runs refl, none refl)

mux2_bounds : HasTwoBounds Mux2
mux2_bounds = (runs refl, none refl)

mux4_bounds : HasTwoBounds Mux4
mux4_bounds = (runs refl, none refl)

mux8_bounds : HasTwoBounds Mux8
mux8_bounds = (runs refl, none refl)

-- ---- at any other kind two delays do not count

-- storage of one delay of 2 to 4
abbrev stores : Kind → Circuit
stores kind = between (record (element kind (bounds 2 4) (pin_list kind) 0) { split = Some slow })

abbrev HasOneBound : Kind → Type 0
HasOneBound kind = AreRuns (stores kind)
    (zeros (map (λ delay. late delay (no_wires kind)) (2 ∷ 3 ∷ 4 ∷ []))) × AreNone (stores kind)
    (chosen kind 1 ((4, 1) ∷ []))

register_bounds : HasOneBound Reg
register_bounds = (runs refl, none refl)

register_rs_bounds : HasOneBound RegRs
register_rs_bounds = (runs refl, none refl)

latch_bounds : HasOneBound Latch
latch_bounds = (runs refl, none refl)

latch_rs_bounds : HasOneBound LatchRs
latch_rs_bounds = (runs refl, none refl)

-- a register that takes in its input, on net 2, a tick after each rise of its clock
register : Fixes
    (between (record (element Reg (bounds 1 1) (on 1 ∷ on 2 ∷ []) 0) { split = Some slow }))
    (run (late 1 (0 ∷ 0 ∷ []) ∷ []) (
    "0110000" ∷
    "0011001" ∷
    "1100110" ∷
    "0000000" ∷ [])) 0 "0111111"
register = fixes refl

-- an output of a change function that changes a tick after its input
change : Fixes
    (between (record (element Chg (bounds 1 1) (on 1 ∷ []) 0) { split = Some (two 0 0 0 0) }))
    (run (late 0 (0 ∷ []) ∷ []) (
    "1110000" ∷
    "0011111" ∷
    "0000000" ∷
    "0000000" ∷ [])) 0 "0111111"
change = fixes refl

-- checkers restrain nothing, whatever stands there
abbrev checked : Kind → Circuit
checked kind = circuit (input ∷ input ∷ input ∷ input ∷ [])
    (record (checker kind (pin_list kind)) { split = Some slow } ∷ [])

abbrev RestrainsNothing : Kind → Type 0
RestrainsNothing kind = AreRuns (checked kind)
    (map (λ delay. run (late delay (no_wires kind) ∷ [])
    ("1011010" ∷ "0110110" ∷ "1101001" ∷ "0000000" ∷ [])) (0 ∷ 3 ∷ 4096 ∷ []))

setup_hold : RestrainsNothing SetupHold
setup_hold = runs refl

rise_fall : RestrainsNothing RiseFall
rise_fall = runs refl

min_pulse : RestrainsNothing MinPulse
min_pulse = runs refl
