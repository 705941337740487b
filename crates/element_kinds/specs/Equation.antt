-- What the output of each kind obeys at one tick, given what its pins show, and which ticks that
-- names.
use Rattle.std.specs.Prelude.{◌≡◌, ℕ, ◌+◌, ◌-◌, ◌^◌, ◌≤◌, Bool, true, false, not, ◌&&◌, if◌then◌else◌, List, [], ◌∷◌, length, map, take, All, slice_index_or, ⊤}
use Rattle.std.specs.List.{list_any, list_all}
use Rattle.scald_base.specs.Time.{Bounds}
use Rattle.scald_base.specs.Signal.{Signal, turned}
use Rattle.element_kinds.specs.declared.kind.Kind.{Kind}
use Rattle.element_kinds.specs.declared.kind.Kind.TheVariants.{Buf, And, Or, Xor, Mux2, Mux4, Mux8, Chg, Reg, RegRs, Latch, LatchRs, SetupHold, RiseFall, MinPulse}
use Rattle.element_kinds.specs.declared.form.Form.{Form}
use Rattle.element_kinds.specs.declared.form.Form.TheVariants.{Gate, Change, Register, Latch as Enabled, Checker}
use Rattle.element_kinds.specs.Kinds.{form_of}

-- ---- gates: a function of the bits that all pins show

abbrev pub nth_bit : List Bool → ℕ → Bool
nth_bit bits i = slice_index_or bits i false

-- whether an odd number of the bits are 1
abbrev pub parity : List Bool → Bool
parity [] = false
parity (b ∷ bs) = turned b (parity bs)

-- the number that bits write, the most significant first
abbrev pub number_of_bits : List Bool → ℕ
number_of_bits [] = 0
number_of_bits (b ∷ bs) = (if b then 2 ^ length bs else 0) + number_of_bits bs

-- after so many selects, the input that they number
abbrev pub selected : ℕ → List Bool → Bool
selected selects bits = nth_bit bits (selects + number_of_bits (take selects bits))

abbrev pub gate_bit : Kind → List Bool → Bool
gate_bit Buf bits = nth_bit bits 0
gate_bit And bits = list_all (λ b. b) bits
gate_bit Or bits = list_any (λ b. b) bits
gate_bit Xor bits = parity bits
gate_bit Mux2 bits = selected 1 bits
gate_bit Mux4 bits = selected 2 bits
gate_bit Mux8 bits = selected 3 bits
gate_bit Chg bits = false
gate_bit Reg bits = false
gate_bit RegRs bits = false
gate_bit Latch bits = false
gate_bit LatchRs bits = false
gate_bit SetupHold bits = false
gate_bit RiseFall bits = false
gate_bit MinPulse bits = false

-- what signals show at a tick
abbrev pub bits_at : List Signal → ℕ → List Bool
bits_at signals t = map (λ x. x t) signals

-- the bit is that of the gate, of what all pins show at the tick
abbrev pub Follows : Kind → List Signal → ℕ → Bool → Type 0
Follows kind signals s output = output ≡ gate_bit kind (bits_at signals s)

-- ---- storage: by the old output too

abbrev pub nth_signal : List Signal → ℕ → Signal
nth_signal signals i = slice_index_or signals i (λ t. false)

-- the signal steps from 0 to 1
abbrev pub rises_at : Signal → ℕ → Bool
rises_at x t = not (x (t - 1)) && x t

-- a register: the input if the clock rises, else the output as it was
abbrev pub registered : List Signal → ℕ → Bool → Bool
registered signals s old = if rises_at (nth_signal signals 0) s then nth_signal signals 1 s else old

-- a latch: the input if it is enabled, else the output as it was
abbrev pub latched : List Signal → ℕ → Bool → Bool
latched signals s old = if nth_signal signals 0 s then nth_signal signals 1 s else old

-- What a set and a reset make of the bit that there would be without them: with both, any.
abbrev pub IsForced : Bool → Bool → Bool → Bool → Type 0
IsForced true true free output = ⊤
IsForced true false free output = output ≡ true
IsForced false true free output = output ≡ false
IsForced false false free output = output ≡ free

-- the same of the set at pin 2 and the reset at pin 3
abbrev pub IsSetReset : List Signal → ℕ → Bool → Bool → Type 0
IsSetReset signals s free output =
    IsForced (nth_signal signals 2 s) (nth_signal signals 3 s) free output

-- ---- change functions

-- no signal steps at the tick
abbrev pub AreStill : List Signal → ℕ → Type 0
AreStill signals t = All (λ x. x (t - 1) ≡ x t) signals

-- the ticks from t - max to t - min
abbrev pub IsInReach : Bounds → ℕ → ℕ → Type 0
IsInReach bounds t u = (u + bounds.min ≤ t) × (t ≤ u + bounds.max)

-- ---- the equation at a tick

-- whether there are a set and a reset: what they make of the bit that there would be without them
abbrev pub IsStored : Bool → List Signal → ℕ → Bool → Bool → Type 0
IsStored false signals s free output = output ≡ free
IsStored true signals s free output = IsSetReset signals s free output

-- by the form of a kind
abbrev pub EquationOf : Form → Kind → Bounds → ℕ → List Signal → Signal → ℕ → Type 0
EquationOf Gate kind bounds delay signals output t = Follows kind signals (t - delay) (output t)
EquationOf Change kind bounds delay signals output t =
    ((u : ℕ) → IsInReach bounds t u → AreStill signals u) → output (t - 1) ≡ output t
EquationOf (Register forced) kind bounds delay signals output t =
    IsStored forced signals (t - delay) (registered signals (t - delay) (output (t - 1))) (output t)
EquationOf (Enabled forced) kind bounds delay signals output t =
    IsStored forced signals (t - delay) (latched signals (t - delay) (output (t - 1))) (output t)
EquationOf (Checker check) kind bounds delay signals output t = ⊤

-- The pins' signals stand in their order, and the delay is the one of the run, which a change
-- function has not. A checker has no output.
abbrev pub Equation : Kind → Bounds → ℕ → List Signal → Signal → ℕ → Type 0
Equation kind bounds delay signals output t =
    EquationOf (form_of kind) kind bounds delay signals output t

-- ---- the ticks that it names

-- how many ticks before t each pin's net is looked at, if all pins are looked at the delay
-- before
abbrev pub pins_before : ℕ → List ℕ → List ℕ
pins_before delay wires = map (λ wire. delay + wire) wires

-- how many ticks before t a register's clock is looked at for the bit before its step
abbrev pub clock_before : ℕ → List ℕ → ℕ
clock_before delay wires = delay + 1 + slice_index_or wires 0 0

-- by the form of a kind
abbrev pub named_by : Form → Bounds → ℕ → List ℕ → List ℕ
named_by Gate bounds delay wires = pins_before delay wires
named_by Change bounds delay wires = 1 ∷ pins_before (bounds.max + 1) wires
named_by (Register forced) bounds delay wires =
    1 ∷ clock_before delay wires ∷ pins_before delay wires
named_by (Enabled forced) bounds delay wires = 1 ∷ pins_before delay wires
named_by (Checker check) bounds delay wires = pins_before delay wires

-- How many ticks before t lie the ticks that the equation names, whatever the bits are. The wires'
-- delays stand in the order of the pins, 0 for a constant. A step at a tick names the tick before,
-- too: a register's clock, and each pin of a change function, of whose steps the earliest counts.
abbrev pub named_before : Kind → Bounds → ℕ → List ℕ → List ℕ
named_before kind bounds delay wires = named_by (form_of kind) bounds delay wires

-- An equation is asked only if every tick that it names is 0 or later: nothing is said of the
-- start.
abbrev pub IsAsked : Kind → Bounds → ℕ → List ℕ → ℕ → Type 0
IsAsked kind bounds delay wires t = All (λ back. back ≤ t) (named_before kind bounds delay wires)
