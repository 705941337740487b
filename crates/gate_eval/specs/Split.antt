-- What a gate with two delays makes of its pins' waves. Its image is taken as it comes, and is late
-- by a rise delay when the output comes to 1 and by a fall delay when it comes to 0.
use Rattle.std.specs.Prelude.{◌≡◌, ◌⊎◌, ℕ, zero, suc, ◌+◌, ◌-◌, ◌<◌, ◌≤◌, nat_le, Bool, true, false, ◌&&◌, ◌||◌, if◌then◌else◌, List, length, Option}
use Rattle.scald_base.specs.Clock.{back}
use Rattle.scald_base.specs.Time.{Bounds}
use Rattle.scald_base.specs.Signal.{Signal}
use Rattle.wave_core.specs.Slots.{slots, earlier}
use Rattle.step_values.specs.declared.value.Value.{Value}
use Rattle.step_values.specs.Steps.{Steps, has, cover, is_unknown}
use Rattle.step_values.specs.Cell.{values}
use Rattle.skew_algebra.specs.Wave.{Wave, skewed, normal}
use Rattle.skew_algebra.specs.Permits.{Permits}
use Rattle.element_kinds.specs.declared.kind.Kind.{Kind}
use Rattle.flat_circuit.specs.declared.split.Split.{Split}
use Rattle.flat_circuit.specs.Run.{Within}
use Rattle.flat_circuit.specs.Split.{either_delay, SplitEquation}
use Rattle.gate_eval.specs.Permitted.{AllPermit}
use Rattle.gate_eval.specs.Instance.{gate_image}

-- one of f 0 to f n holds
abbrev pub some_to : (ℕ → Bool) → ℕ → Bool
some_to f zero = f 0
some_to f (suc n) = some_to f n || f (suc n)

-- some slot of p - d.max to p - d.min has a value that passes the test
abbrev pub some_before : (Value → Bool) → List Value → Bounds → ℕ → Bool
some_before test cells d p =
    some_to (λ i. test (earlier values cells p (d.min + i))) (d.max - d.min)

-- the value permits a step that ends in this bit
abbrev pub ends_in : Bool → Value → Bool
ends_in bit v = has v false bit || has v true bit

abbrev pub may_rise : Value → Bool
may_rise v = has v false true

abbrev pub may_fall : Value → Bool
may_fall v = has v true false

-- In slot p the output may be at this bit: some slot from the greatest to the least of both delays
-- before ends in it. If the delay to the bit is at least the other one whatever both are, some
-- slot that the rise delay reaches and some slot that the fall delay reaches do.
abbrev pub may_be : Bool → Bool → Split → List Value → ℕ → Bool
may_be bit is_longer s cells p =
    if is_longer
    then some_before (ends_in bit) cells s.rise p && some_before (ends_in bit) cells s.fall p
    else some_before (ends_in bit) cells (either_delay s) p

abbrev pub may_be_one : Split → List Value → ℕ → Bool
may_be_one s = may_be true (nat_le s.fall.max s.rise.min) s

abbrev pub may_be_zero : Split → List Value → ℕ → Bool
may_be_zero s = may_be false (nat_le s.rise.max s.fall.min) s

-- the slot before
abbrev pub slot_before : List Value → ℕ → ℕ
slot_before cells p = back (length cells) p 1

-- What the output may do in slot p. It rises by a rise of the image its rise delay before, and
-- falls by a fall its fall delay before.
abbrev pub split_steps : Split → List Value → ℕ → Steps
split_steps s cells p false false = may_be_zero s cells p
split_steps s cells p false true =
    may_be_one s cells p && (may_be_zero s cells (slot_before cells p)
    && some_before may_rise cells s.rise p)
split_steps s cells p true false =
    may_be_zero s cells p && (may_be_one s cells (slot_before cells p)
    && some_before may_fall cells s.fall p)
split_steps s cells p true true = may_be_one s cells p

abbrev pub split_value : Split → List Value → ℕ → Value
split_value s cells p =
    cover (split_steps s cells p) (some_before is_unknown cells (either_delay s) p)

-- In every slot the output may be 0 or 1, so the value is the cover of a set that is not empty.
abbrev pub SomeBitIsLeft : Type 0
SomeBitIsLeft =
    (s : Split) (cells : List Value) (p : ℕ) → s.rise.min ≤ s.rise.max → s.fall.min ≤ s.fall.max →
    (may_be_one s cells p ≡ true) ⊎ (may_be_zero s cells p ≡ true)

-- that in each slot, with the skew that the image has
abbrev pub late_by_two : Wave Value → Split → Wave Value
late_by_two z s = skewed (slots (length z.cells) (split_value s z.cells)) z.skew

-- the wave of the output, before its complement; `marked` is the pin that is marked
unfoldable pub split_wave : Kind → List (Wave Value) → Option ℕ → Split → Wave Value
split_wave kind waves marked s = normal values (late_by_two (gate_image kind waves marked) s)

-- The pins' signals are n bits long, and their waves permit them from tick v on. Then the wave
-- permits each output that obeys the equation of two delays within the bounds at its ticks from v +
-- the greatest delay on, from the next tick on, with one offset for all of it.
abbrev pub IsSplitSound : Kind → Split → List (Wave Value) → Wave Value → Type 0
IsSplitSound kind s waves wave =
    (n m v rise fall : ℕ) (signals : List Signal) (output : Signal) →
    AllPermit values waves n signals v → 1 ≤ v →
    Within s.rise rise → Within s.fall fall → m ≤ n + (either_delay s).min →
    ((t : ℕ) → v + (either_delay s).max ≤ t → t < m →
    SplitEquation kind rise fall signals output t) →
    Permits values wave m output (v + (either_delay s).max + 1)
