-- Runs of one gate. Without delays each tick is a row of the gate's table, and every bit of the
-- output is fixed.
use Rattle.std.proofs.Common.{true, false, List, [], ◌∷◌, refl}
use Rattle.element_kinds.specs.declared.kind.Kind.{Kind}
use Rattle.element_kinds.specs.declared.kind.Kind.TheVariants.{Buf, And, Or, Xor, Mux2, Mux4, Mux8}
use Rattle.flat_circuit.specs.declared.instance.Pin.{Pin}
use Rattle.flat_circuit.specs.Circuit.{Circuit}
use Rattle.flat_circuit.proofs.RunTables.{bounds, input, driven_by, on, not_on, constant, not_constant, element, complemented, circuit, late, run, AreNone, Fixes, none, fixes}

-- a gate of any delay up to 9, which drives net 0
abbrev gate : Kind → List Pin → Circuit
gate kind pins =
    circuit (driven_by 0 ∷ input ∷ input ∷ input ∷ []) (element kind (bounds 0 9) pins 0 ∷ [])

-- ---- tables

buffer : Fixes (gate Buf (on 1 ∷ [])) (run (late 0 (0 ∷ []) ∷ []) ("01" ∷ "01" ∷ "00" ∷ "00" ∷ []))
    0 "11"
buffer = fixes refl

and_of_three : Fixes (gate And (on 1 ∷ on 2 ∷ on 3 ∷ [])) (run (late 0 (0 ∷ 0 ∷ 0 ∷ []) ∷ []) (
    "00000001" ∷
    "00001111" ∷
    "00110011" ∷
    "01010101" ∷ [])) 0 "11111111"
and_of_three = fixes refl

or_of_three : Fixes (gate Or (on 1 ∷ on 2 ∷ on 3 ∷ [])) (run (late 0 (0 ∷ 0 ∷ 0 ∷ []) ∷ []) (
    "01111111" ∷
    "00001111" ∷
    "00110011" ∷
    "01010101" ∷ [])) 0 "11111111"
or_of_three = fixes refl

xor_of_three : Fixes (gate Xor (on 1 ∷ on 2 ∷ on 3 ∷ [])) (run (late 0 (0 ∷ 0 ∷ 0 ∷ []) ∷ []) (
    "01101001" ∷
    "00001111" ∷
    "00110011" ∷
    "01010101" ∷ [])) 0 "11111111"
xor_of_three = fixes refl

-- the select first, then the inputs that it numbers 0 and 1
mux_of_two : Fixes (gate Mux2 (on 1 ∷ on 2 ∷ on 3 ∷ [])) (run (late 0 (0 ∷ 0 ∷ 0 ∷ []) ∷ []) (
    "00110101" ∷
    "00001111" ∷
    "00110011" ∷
    "01010101" ∷ [])) 0 "11111111"
mux_of_two = fixes refl

-- Selects 00, 01, 10 and 11, the most significant first, twice: the input that they number is 1
-- alone, and then 0 alone.
mux_of_four : Fixes
    (circuit (driven_by 0 ∷ input ∷ input ∷ input ∷ input ∷ input ∷ input ∷ [])
    (element Mux4 (bounds 0 9) (on 1 ∷ on 2 ∷ on 3 ∷ on 4 ∷ on 5 ∷ on 6 ∷ []) 0 ∷ []))
    (run (late 0 (0 ∷ 0 ∷ 0 ∷ 0 ∷ 0 ∷ 0 ∷ []) ∷ []) (
    "11110000" ∷
    "00110011" ∷
    "01010101" ∷
    "10000111" ∷
    "01001011" ∷
    "00101101" ∷
    "00011110" ∷ [])) 0 "11111111"
mux_of_four = fixes refl

-- the same with three selects and eight inputs
mux_of_eight : Fixes
    (circuit (driven_by 0 ∷ input ∷ input ∷ input ∷ input ∷ input ∷ input ∷ input ∷ input ∷ input ∷
    input ∷ input ∷ [])
    (element Mux8 (bounds 0 9) (on 1 ∷ on 2 ∷ on 3 ∷ on 4 ∷ on 5 ∷ on 6 ∷ on 7 ∷ on 8 ∷ on 9 ∷
    on 10 ∷ on 11 ∷ []) 0 ∷ []))
    (run (late 0 (0 ∷ 0 ∷ 0 ∷ 0 ∷ 0 ∷ 0 ∷ 0 ∷ 0 ∷ 0 ∷ 0 ∷ 0 ∷ []) ∷ []) (
    "1111111100000000" ∷
    "0000111100001111" ∷
    "0011001100110011" ∷
    "0101010101010101" ∷
    "1000000001111111" ∷
    "0100000010111111" ∷
    "0010000011011111" ∷
    "0001000011101111" ∷
    "0000100011110111" ∷
    "0000010011111011" ∷
    "0000001011111101" ∷
    "0000000111111110" ∷ [])) 0 "1111111111111111"
mux_of_eight = fixes refl

-- ---- gates of one pin, of a net twice, of constants and of complements

and_of_one : Fixes (gate And (on 1 ∷ [])) (run (late 0 (0 ∷ []) ∷ [])
    ("01" ∷ "01" ∷ "00" ∷ "00" ∷ [])) 0 "11"
and_of_one = fixes refl

complement_at_a_pin : Fixes (gate And (on 1 ∷ not_on 2 ∷ [])) (run (late 0 (0 ∷ 0 ∷ []) ∷ []) (
    "0010" ∷
    "0011" ∷
    "0101" ∷
    "0000" ∷ [])) 0 "1111"
complement_at_a_pin = fixes refl

complement_at_the_output : Fixes
    (circuit (driven_by 0 ∷ input ∷ input ∷ []) (complemented
    (element Or (bounds 0 9) (on 1 ∷ on 2 ∷ []) 0) ∷ []))
    (run (late 0 (0 ∷ 0 ∷ []) ∷ []) (
    "1000" ∷
    "0011" ∷
    "0101" ∷ [])) 0 "1111"
complement_at_the_output = fixes refl

-- a constant passes on no tick before the delay, and every tick from there on
constant_one : Fixes (gate Buf (constant true ∷ []))
    (run (late 2 (0 ∷ []) ∷ []) ("01111" ∷ "00000" ∷ "00000" ∷ "00000" ∷ [])) 0 "00111"
constant_one = fixes refl

constant_zero : Fixes (gate Buf (constant false ∷ []))
    (run (late 0 (0 ∷ []) ∷ []) ("000" ∷ "111" ∷ "111" ∷ "111" ∷ [])) 0 "111"
constant_zero = fixes refl

complemented_constants : Fixes (gate Xor (not_constant true ∷ not_constant false ∷ on 1 ∷ []))
    (run (late 0 (0 ∷ 0 ∷ 0 ∷ []) ∷ []) (
    "10" ∷
    "01" ∷
    "00" ∷
    "00" ∷ [])) 0 "11"
complemented_constants = fixes refl

-- a constant has no wire
constants_are_not_late : AreNone (gate Buf (constant true ∷ []))
    (run (late 0 (1 ∷ []) ∷ []) ("111" ∷ "000" ∷ "000" ∷ "000" ∷ []) ∷ [])
constants_are_not_late = none refl

-- ---- delays: those of the gate and of the wire come together, and before their sum nothing is
-- asked

-- of a delay of 1 and wires of 2, 3 ticks; the start is any, and the end of the input is not seen
-- yet
late_buffer : Fixes (gate Buf (on 1 ∷ [])) (run (late 1 (2 ∷ []) ∷ []) (
    "10110100" ∷
    "10100111" ∷
    "00000000" ∷
    "00000000" ∷ [])) 0 "00011111"
late_buffer = fixes refl

-- The last three ticks of the input are free, and each one before fixes the output.
late_buffer_input : Fixes (gate Buf (on 1 ∷ [])) (run (late 1 (2 ∷ []) ∷ []) (
    "01010100" ∷
    "10100000" ∷
    "00000000" ∷
    "00000000" ∷ [])) 1 "11111000"
late_buffer_input = fixes refl

-- One net on two pins, by a wire of 0 and a wire of 2: what it is against what it was two ticks
-- before. From tick 3 on, for a delay of 1.
two_wires_of_one_net : Fixes (gate Xor (on 1 ∷ on 1 ∷ [])) (run (late 1 (0 ∷ 2 ∷ []) ∷ []) (
    "11110011" ∷
    "00101100" ∷
    "00000000" ∷
    "00000000" ∷ [])) 0 "00011111"
two_wires_of_one_net = fixes refl

-- An input that the select does not number is a pin too: nothing is asked before its wire's ticks
-- have passed.
unselected_pin_delays : Fixes (gate Mux2 (on 1 ∷ on 2 ∷ on 3 ∷ []))
    (run (late 0 (0 ∷ 0 ∷ 3 ∷ []) ∷ []) (
    "010111" ∷
    "000001" ∷
    "111110" ∷
    "001000" ∷ [])) 0 "000111"
unselected_pin_delays = fixes refl
