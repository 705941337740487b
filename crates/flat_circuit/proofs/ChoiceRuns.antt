-- What a run chooses, and how its lists must fit: delays and wires at both ends of their bounds and
-- one past them, too few and too many choices, wires, nets and bits. All bits here are 0, which
-- each delay allows, unless more is said.
use Rattle.std.proofs.Common.{ℕ, Bool, true, List, [], ◌∷◌, map, refl, None}
use Rattle.element_kinds.specs.declared.kind.Kind.{Kind}
use Rattle.element_kinds.specs.declared.kind.Kind.TheVariants.{Buf, And, Or, Xor, Mux2, Mux4, Mux8, Chg, Reg, RegRs, Latch, LatchRs, SetupHold, RiseFall, MinPulse}
use Rattle.flat_circuit.specs.declared.instance.Pin.{Pin}
use Rattle.flat_circuit.specs.Circuit.{Circuit}
use Rattle.flat_circuit.specs.Run.{Run, Choice}
use Rattle.flat_circuit.proofs.RunTables.{bounds, wired, input, driven_by, on, constant, element, complemented, checker, circuit, bits, late, run, AreRuns, AreNone, Fixes, runs, none, fixes}

abbrev zeros : List Choice → List Run
zeros choices = map (λ choice. run (choice ∷ []) ("0000" ∷ "0000" ∷ "0000" ∷ [])) choices

-- ---- delays

-- one pin of each kind as often as it has pins
abbrev pub pin_list : Kind → List Pin
pin_list Buf = on 1 ∷ []
pin_list And = on 1 ∷ []
pin_list Or = on 1 ∷ []
pin_list Xor = on 1 ∷ []
pin_list Mux2 = on 1 ∷ on 1 ∷ on 1 ∷ []
pin_list Mux4 = on 1 ∷ on 1 ∷ on 1 ∷ on 1 ∷ on 1 ∷ on 1 ∷ []
pin_list Mux8 = on 1 ∷ on 1 ∷ on 1 ∷ on 1 ∷ on 1 ∷ on 1 ∷ on 1 ∷ on 1 ∷ on 1 ∷ on 1 ∷ on 1 ∷ []
pin_list Chg = on 1 ∷ []
pin_list Reg = on 1 ∷ on 1 ∷ []
pin_list RegRs = on 1 ∷ on 1 ∷ on 1 ∷ on 1 ∷ []
pin_list Latch = on 1 ∷ on 1 ∷ []
pin_list LatchRs = on 1 ∷ on 1 ∷ on 1 ∷ on 1 ∷ []
pin_list SetupHold = on 1 ∷ on 1 ∷ []
pin_list RiseFall = on 1 ∷ on 1 ∷ []
pin_list MinPulse = on 1 ∷ []

-- an element of a delay of 2 to 4
abbrev with_delay : Kind → Circuit
with_delay kind = circuit (driven_by 0 ∷ input ∷ input ∷ [])
    (element kind (bounds 2 4) (pin_list kind) 0 ∷ [])

abbrev delayed : Kind → List ℕ → List Run
delayed kind delays = zeros (map (λ delay. late delay (map (λ pin. 0) (pin_list kind))) delays)

-- the ends of the bounds, and one past each
abbrev HasBounds : Kind → Type 0
HasBounds kind = AreRuns (with_delay kind) (delayed kind (2 ∷ 3 ∷ 4 ∷ [])) × AreNone
    (with_delay kind) (delayed kind (0 ∷ 1 ∷ 5 ∷ []))

buffer_bounds : HasBounds Buf
buffer_bounds = (runs refl, none refl)

and_bounds : HasBounds And
and_bounds = (runs refl, none refl)

or_bounds : HasBounds Or
or_bounds = (runs refl, none refl)

xor_bounds : HasBounds Xor
xor_bounds = (runs refl, none refl)

mux2_bounds : HasBounds Mux2
mux2_bounds = (runs refl, none refl)

mux4_bounds : HasBounds Mux4
mux4_bounds = (runs refl, none refl)

mux8_bounds : HasBounds Mux8
mux8_bounds = (runs refl, none refl)

register_bounds : HasBounds Reg
register_bounds = (runs refl, none refl)

register_rs_bounds : HasBounds RegRs
register_rs_bounds = (runs refl, none refl)

latch_bounds : HasBounds Latch
latch_bounds = (runs refl, none refl)

latch_rs_bounds : HasBounds LatchRs
latch_rs_bounds = (runs refl, none refl)

-- a change function and the checkers have no delay, whatever stands in its place
abbrev checker_with_delay : Kind → Circuit
checker_with_delay kind = circuit (input ∷ input ∷ input ∷ [])
    (record (checker kind (pin_list kind)) { delay = bounds 2 4 } ∷ [])

abbrev any_delay : List ℕ
any_delay = 0 ∷ 1 ∷ 3 ∷ 5 ∷ 4096 ∷ []

change_delays : AreRuns (with_delay Chg) (delayed Chg any_delay)
change_delays = runs refl

setup_hold_delays : AreRuns (checker_with_delay SetupHold) (delayed SetupHold any_delay)
setup_hold_delays = runs refl

rise_fall_delays : AreRuns (checker_with_delay RiseFall) (delayed RiseFall any_delay)
rise_fall_delays = runs refl

pulse_delays : AreRuns (checker_with_delay MinPulse) (delayed MinPulse any_delay)
pulse_delays = runs refl

-- if there is one delay, a rise and a fall delay are any
one_delay_counts : AreRuns (with_delay Buf)
    (zeros (record (late 2 (0 ∷ [])) { rise = 9; fall = 4096 } ∷ []))
one_delay_counts = runs refl

-- ---- wires

-- an AND of a net with wires of 0 to 1, of one with wires of 2 to 4, and of a constant, which has
-- none
abbrev different_wires : Circuit
different_wires =
    circuit (driven_by 0 ∷ wired 0 1 None ∷ wired 2 4 None ∷ [])
    (element And (bounds 0 0) (on 1 ∷ on 2 ∷ constant true ∷ []) 0 ∷ [])

abbrev wires_of : List (List ℕ) → List Run
wires_of wires = zeros (map (late 0) wires)

wires_fit : AreRuns different_wires (wires_of
    ((0 ∷ 2 ∷ 0 ∷ []) ∷ (1 ∷ 4 ∷ 0 ∷ []) ∷ (0 ∷ 4 ∷ 0 ∷ []) ∷ (1 ∷ 3 ∷ 0 ∷ []) ∷ []))
wires_fit = runs refl

-- one past each end, a constant with a wire, and too few and too many wires
wires_do_not_fit : AreNone different_wires (wires_of
    ((2 ∷ 2 ∷ 0 ∷ []) ∷ (0 ∷ 1 ∷ 0 ∷ []) ∷ (0 ∷ 5 ∷ 0 ∷ []) ∷ (0 ∷ 2 ∷ 1 ∷ []) ∷ (2 ∷ 0 ∷ 0 ∷ []) ∷
    [] ∷ (0 ∷ []) ∷ (0 ∷ 2 ∷ []) ∷ (0 ∷ 2 ∷ 0 ∷ 0 ∷ []) ∷ []))
wires_do_not_fit = none refl

-- a pin on no net
no_such_net : AreNone (circuit (driven_by 0 ∷ input ∷ input ∷ [])
    (element Buf (bounds 0 0) (on 3 ∷ []) 0 ∷ [])) (wires_of ((0 ∷ []) ∷ []))
no_such_net = none refl

-- The wires of a checker have bounds too, and its pins restrain no net.
abbrev checked : Circuit
checked = circuit (wired 1 2 None ∷ wired 0 0 None ∷ wired 3 3 None ∷ [])
    (checker SetupHold (on 0 ∷ on 1 ∷ []) ∷ checker RiseFall (on 0 ∷ on 1 ∷ []) ∷ checker MinPulse
    (on 2 ∷ []) ∷ [])

abbrev any_bits : List Choice → Run
any_bits choices = run choices ("1010011" ∷ "0110101" ∷ "0001011" ∷ [])

checkers_restrain_nothing : AreRuns checked
    (any_bits (late 0 (1 ∷ 0 ∷ []) ∷ late 0 (1 ∷ 0 ∷ []) ∷ late 0 (3 ∷ []) ∷ [])
    ∷ any_bits (late 7 (2 ∷ 0 ∷ []) ∷ late 0 (1 ∷ 0 ∷ []) ∷ late 1 (3 ∷ []) ∷ []) ∷ [])
checkers_restrain_nothing = runs refl

checkers_wires : AreNone checked
    (any_bits (late 0 (0 ∷ 0 ∷ []) ∷ late 0 (1 ∷ 0 ∷ []) ∷ late 0 (3 ∷ []) ∷ [])
    ∷ any_bits (late 0 (1 ∷ 0 ∷ []) ∷ late 0 (3 ∷ 0 ∷ []) ∷ late 0 (3 ∷ []) ∷ [])
    ∷ any_bits (late 0 (1 ∷ 0 ∷ []) ∷ late 0 (1 ∷ 1 ∷ []) ∷ late 0 (3 ∷ []) ∷ [])
    ∷ any_bits (late 0 (1 ∷ 0 ∷ []) ∷ late 0 (1 ∷ 0 ∷ []) ∷ late 0 (2 ∷ []) ∷ []) ∷ [])
checkers_wires = none refl

-- ---- lengths

-- a buffer without delay
abbrev buffer : Circuit
buffer = circuit (driven_by 0 ∷ input ∷ []) (element Buf (bounds 0 0) (on 1 ∷ []) 0 ∷ [])

abbrev chosen : List Choice
chosen = late 0 (0 ∷ []) ∷ []

-- runs of 0, 1, 2 and 24 ticks
any_length : AreRuns buffer
    (run chosen ("" ∷ "" ∷ [])
    ∷ run chosen ("1" ∷ "1" ∷ [])
    ∷ run chosen ("10" ∷ "10" ∷ [])
    ∷ run chosen ("110100010110111010001110" ∷ "110100010110111010001110" ∷ []) ∷ [])
any_length = runs refl

abbrev of_ticks : ℕ → List (List Bool) → Run
of_ticks ticks nets = record { ticks = ticks; choices = chosen; bits = nets }

-- bits of other lengths, each net's and both; nets missing, and one more
lengths_differ : AreNone buffer
    (of_ticks 1 (bits "" ∷ bits "" ∷ [])
    ∷ of_ticks 0 (bits "0" ∷ bits "0" ∷ [])
    ∷ of_ticks 3 (bits "0000" ∷ bits "000" ∷ [])
    ∷ of_ticks 3 (bits "000" ∷ bits "0000" ∷ [])
    ∷ of_ticks 3 (bits "000" ∷ bits "00" ∷ [])
    ∷ of_ticks 3 (bits "00" ∷ bits "000" ∷ [])
    ∷ of_ticks 3 []
    ∷ of_ticks 3 (bits "000" ∷ [])
    ∷ of_ticks 3 (bits "000" ∷ bits "000" ∷ bits "000" ∷ []) ∷ [])
lengths_differ = none refl

-- no choice for the buffer, and one too many
choices_differ : AreNone buffer
    (run [] ("000" ∷ "000" ∷ [])
    ∷ run (late 0 (0 ∷ []) ∷ late 0 (0 ∷ []) ∷ []) ("000" ∷ "000" ∷ []) ∷ [])
choices_differ = none refl

-- A circuit of wires alone has any bits; one without nets has runs of any length, and no bits.
nothing_driven : AreRuns (circuit (input ∷ input ∷ []) [])
    (run [] ("101" ∷ "011" ∷ []) ∷ run [] ("" ∷ "" ∷ []) ∷ [])
nothing_driven = runs refl

abbrev empty : ℕ → Run
empty ticks = record { ticks = ticks; choices = []; bits = [] }

no_nets : AreRuns (circuit [] []) (empty 0 ∷ empty 5 ∷ [])
no_nets = runs refl

-- ---- several instances

-- Three buffers in a chain, with a checker between: each of them is asked, and each shows what the
-- one before it did.
abbrev chain : Circuit
chain = circuit (input ∷ driven_by 0 ∷ driven_by 2 ∷ driven_by 3 ∷ [])
    (element Buf (bounds 1 1) (on 0 ∷ []) 1 ∷ checker MinPulse (on 1 ∷ []) ∷
    element Buf (bounds 1 1) (on 1 ∷ []) 2 ∷ element Buf (bounds 1 1) (on 2 ∷ []) 3 ∷ [])

abbrev through_chain : Run
through_chain = run (late 1 (0 ∷ []) ∷ late 0 (0 ∷ []) ∷ late 1 (0 ∷ []) ∷ late 1 (0 ∷ []) ∷ [])
    ("101101" ∷
    "010110" ∷
    "101011" ∷
    "010101" ∷ [])

chain_input : Fixes chain through_chain 0 "111110"
chain_input = fixes refl

chain_first : Fixes chain through_chain 1 "111111"
chain_first = fixes refl

chain_last : Fixes chain through_chain 3 "011111"
chain_last = fixes refl

-- Loops: an OR that holds what it has seen, and a register that takes in its own complement.
holding : Fixes (circuit (driven_by 0 ∷ input ∷ [])
    (element Or (bounds 1 1) (on 0 ∷ on 1 ∷ []) 0 ∷ []))
    (run (late 1 (0 ∷ 0 ∷ []) ∷ []) ("000111" ∷ "001000" ∷ [])) 0 "111111"
holding = fixes refl

halving : Fixes (circuit (driven_by 0 ∷ input ∷ driven_by 1 ∷ [])
    (element Reg (bounds 1 1) (on 1 ∷ on 2 ∷ []) 0 ∷ complemented
    (element Buf (bounds 0 0) (on 0 ∷ []) 2) ∷ []))
    (run (late 1 (0 ∷ 0 ∷ []) ∷ late 0 (0 ∷ []) ∷ [])
    ("000110011" ∷
    "001010101" ∷
    "111001100" ∷ [])) 1 "011111100"
halving = fixes refl
