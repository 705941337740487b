-- What passes on a change in a case: which nets may change, and which pins of gates and change
-- functions are open.
use Rattle.std.specs.Prelude.{◌≡◌, ℕ, suc, zero, ◌-◌, ◌<◌, ◌/◌, ◌%◌, ◌==◌, nat_le, nat_lt, Bool, true, false, not, ◌&&◌, ◌||◌, List, length, slice_get, is_none, is_some, if◌then◌else◌, Option, Some, None}
use mathlib.Core.Bool.{beq}
use Rattle.std.specs.List.{list_any, range_with_len}
use Rattle.vector_names.specs.declared.bits.Target.{Target}
use Rattle.vector_names.specs.declared.bits.Target.TheVariants.{Net as OnNet, Constant}
use Rattle.step_values.specs.declared.value.Value.{Value}
use Rattle.step_values.specs.Cell.{values, same}
use Rattle.skew_algebra.specs.Wave.{Wave, is_steady}
use Rattle.element_kinds.specs.declared.kind.Kind.{Kind}
use Rattle.element_kinds.specs.declared.kind.Kind.TheVariants.{Buf, And, Or, Xor, Mux2, Mux4, Mux8, Chg, Reg, RegRs, Latch, LatchRs, SetupHold, RiseFall, MinPulse}
use Rattle.element_kinds.specs.Kinds.{selects_of}
use Rattle.flat_circuit.specs.declared.instance.Pin.{Pin}
use Rattle.flat_circuit.specs.declared.instance.Instance.{Instance}
use Rattle.flat_circuit.specs.declared.split.Split.{Split}
use Rattle.flat_circuit.specs.Circuit.{Circuit}
use Rattle.flat_circuit.specs.Instances.{is_on}
use Rattle.flat_circuit.specs.Split.{two_delays}
use Rattle.gate_eval.specs.Hold.{hazard, staying}
use Rattle.fixpoint_engine.specs.Settled.{marked_in}
use Rattle.fixpoint_engine.specs.Waves.{Waves, marked_pin, pin_waves}
use Rattle.drawing_notes.specs.Pins.{passes}

-- ---- nets

-- The net may change in some slot. It is the same of its fold, and of what a pin on it shows: a
-- skew and a wire spread changes, and make and hide none.
abbrev pub changes : Waves → ℕ → Bool
changes ws i = not (is_steady values (ws i).cells)

abbrev pub changes_on : Waves → Target → Bool
changes_on ws (OnNet i) = changes ws i
changes_on ws (Constant one) = false

-- a net that passes something on: it is on no loop, and may change
abbrev pub is_passable : Circuit → (ℕ → Bool) → Waves → ℕ → Bool
is_passable c looped ws i = nat_lt i (length c.nets) && (not (looped i) && changes ws i)

-- ---- selects

-- another value than that of a bit that stays
abbrev pub is_other : Bool → Value → Bool
is_other bit v = not (same v (staying bit))

-- the net has this bit in each slot
abbrev pub stays_at : Waves → Bool → ℕ → Bool
stays_at ws bit i = not (list_any (is_other bit) (ws i).cells)

abbrev pub stays_on : Waves → Bool → Target → Bool
stays_on ws bit (OnNet i) = stays_at ws bit i
stays_on ws bit (Constant one) = beq one bit

-- a bit, or its complement
abbrev pub turned_if : Bool → Bool → Bool
turned_if inverted bit = if inverted then not bit else bit

-- a pin shows this bit in each slot
abbrev pub shows : Waves → Bool → Option Pin → Bool
shows ws bit None = false
shows ws bit (Some p) = stays_on ws (turned_if p.inverted bit) p.target

-- how many pieces of data stand together at a select, by how many selects follow it
abbrev pub span : ℕ → ℕ
span zero = 1
span (suc zero) = 2
span (suc (suc more)) = 4

-- the bit of a select at which it takes the data of this number
abbrev pub takes : ℕ → ℕ → Bool
takes after number = ((number / span after) % 2) == 1

-- the select at a place stays at the other bit
abbrev pub shuts : Waves → Instance → ℕ → ℕ → Bool
shuts ws j number place =
    shows ws (not (takes (selects_of j.kind - 1 - place) number)) (slice_get j.pins place)

-- The pin at a place is data that some select excludes.
abbrev pub is_shut : Waves → Instance → ℕ → Bool
is_shut ws j place =
    nat_le (selects_of j.kind) place
    && list_any (shuts ws j (place - selects_of j.kind)) (range_with_len 0 (selects_of j.kind))

-- ---- marks

-- a pin is marked, and the rule of the mark holds
abbrev pub keeps_mark : Circuit → Waves → Instance → Bool
keeps_mark c ws j =
    is_some (marked_pin j) && is_none (hazard j.kind (pin_waves c ws j) (marked_pin j))

abbrev pub keeps_at : Circuit → Waves → Option Instance → Bool
keeps_at c ws None = false
keeps_at c ws (Some j) = keeps_mark c ws j

-- by the numbers of instances, which keep a mark
abbrev pub AreHeld : Circuit → Waves → List Bool → Type 0
AreHeld c ws marks = (k : ℕ) → k < length c.instances →
    marked_in marks k ≡ keeps_at c ws (slice_get c.instances k)

-- ---- open pins

-- The pin at a place is heard. Where the rule of a mark holds, the marked pin alone is.
abbrev pub is_heard : Bool → Waves → Instance → ℕ → Pin → Bool
is_heard held ws j place p = (p.hold || not held) && not (is_shut ws j place)

abbrev pub is_open : Circuit → Waves → Instance → ℕ → Pin → Bool
is_open c ws j place p = is_heard (keeps_mark c ws j) ws j place p

-- the pin at a place is open, and on the net
abbrev pub opens_at : Bool → Waves → ℕ → Instance → ℕ → Option Pin → Bool
opens_at held ws i j place None = false
opens_at held ws i j place (Some p) = is_on i p.target && is_heard held ws j place p

abbrev pub opens_by : Bool → Waves → ℕ → Instance → Bool
opens_by held ws i j =
    list_any (λ place. opens_at held ws i j place (slice_get j.pins place))
    (range_with_len 0 (length j.pins))

-- a gate or a change function that has an open pin on the net
abbrev pub opens_on : Circuit → Waves → ℕ → Option Instance → Bool
opens_on c ws i None = false
opens_on c ws i (Some j) = passes j.kind && opens_by (keeps_mark c ws j) ws i j

-- ---- rises and falls

-- the kinds whose output rises with rises of its pins alone, selects left aside
abbrev pub keeps_direction : Kind → Bool
keeps_direction Buf = true
keeps_direction And = true
keeps_direction Or = true
keeps_direction Xor = false
keeps_direction Mux2 = true
keeps_direction Mux4 = true
keeps_direction Mux8 = true
keeps_direction Chg = false
keeps_direction Reg = false
keeps_direction RegRs = false
keeps_direction Latch = false
keeps_direction LatchRs = false
keeps_direction SetupHold = false
keeps_direction RiseFall = false
keeps_direction MinPulse = false

-- The pin at a place makes of a rise or fall of its net this change of the output's net: an XOR, a
-- select and a change function make both of each.
abbrev pub makes : Instance → ℕ → Pin → Bool → Bool → Bool
makes j place p before rise =
    not (keeps_direction j.kind && nat_le (selects_of j.kind) place)
    || beq (turned_if p.inverted before) (turned_if j.out_inverted rise)

abbrev pub delay_by : Option Split → ℕ → Bool → ℕ
delay_by None delay rise = delay
delay_by (Some s) delay rise = if rise then s.rise.max else s.fall.max

-- the greatest delay to a rise or a fall of the net that an instance drives; of two delays the one
-- to its output's own change, before a complement
abbrev pub delay_to : Bool → Instance → ℕ
delay_to rise j =
    delay_by (two_delays j.kind j.split) j.delay.max (turned_if j.out_inverted rise)
