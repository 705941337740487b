-- What the pins of an instance show in a run, and waves that permit it.
use Rattle.std.specs.Prelude.{◌≡◌, ℕ, ◌+◌, ◌<◌, ◌≤◌, max, List, length, slice_get, slice_index_or, Some}
use Rattle.scald_base.specs.Signal.{Signal}
use Rattle.step_values.specs.declared.value.Value.{Value}
use Rattle.step_values.specs.Cell.{values}
use Rattle.wave_core.specs.Slots.{earlier}
use Rattle.skew_algebra.specs.Permits.{Permits}
use Rattle.flat_circuit.specs.declared.instance.Instance.{Instance}
use Rattle.flat_circuit.specs.Circuit.{Circuit}
use Rattle.element_kinds.specs.Equation.{nth_signal}
use Rattle.flat_circuit.specs.Run.{Run, Choice, pin_signals}
use Rattle.gate_eval.specs.Instance.{wave_of_pin}
use Rattle.fixpoint_engine.specs.Waves.{Waves, pin_waves}

-- ---- steps of pins

abbrev pub wire_to : Choice → ℕ → ℕ
wire_to choice i = slice_index_or choice.wires i 0

-- what pin i of an instance shows
abbrev pub pin_at : Run → Instance → Choice → ℕ → Signal
pin_at run j choice i = nth_signal (pin_signals run j.pins choice.wires) i

-- The step of pin i at tick t lies at a given tick or later, and in the run: its net has both bits,
-- a wire's delay before.
pub record StepsFrom (run : Run) (choice : Choice) (i start t : ℕ) : Type 0 where
  pub after : start ≤ t
  pub begins : wire_to choice i + 1 ≤ t
  pub ends : t < run.ticks

-- ---- waves at pins

-- The wave at each pin of an instance permits the steps of the pin that lie in the run, at ticks
-- from a given one on.
abbrev pub PinsPermit : Circuit → Waves → Run → Instance → Choice → ℕ → Type 0
PinsPermit c ws run j choice start =
    (i : ℕ) → i < length j.pins → Permits values (wave_of_pin (pin_waves c ws j) i) run.ticks
    (pin_at run j choice i) (max start (wire_to choice i + 1))

-- the same of the instance of a number
abbrev pub PinsPermitAt : Circuit → Waves → Run → ℕ → ℕ → Type 0
PinsPermitAt c ws run k start =
    (j : Instance) (choice : Choice) → slice_get c.instances k ≡ Some j →
    slice_get run.choices k ≡ Some choice → PinsPermit c ws run j choice start

-- the values of a period's slots, read round it
abbrev pub read : List Value → ℕ → Value
read cells s = earlier values cells s 0
