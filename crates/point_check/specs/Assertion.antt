-- Faults of driven nets whose names assert something.
use Rattle.std.specs.Prelude.{ℕ, Bool, not, ◌&&◌, is_some, Option, Some, None, if◌then◌else◌}
use Rattle.std.specs.Option.{option_map}
use Rattle.scald_base.specs.declared.assertion.AssertSpec.{AssertSpec}
use Rattle.scald_base.specs.Time.{Header, period}
use Rattle.step_values.specs.declared.value.Value.{Value}
use Rattle.step_values.specs.Steps.{has, letter_of}
use Rattle.step_values.specs.Image.{some_step}
use Rattle.step_values.specs.Cell.{values}
use Rattle.skew_algebra.specs.Wave.{Wave, fold, cell_at}
use Rattle.flat_circuit.specs.declared.net.Net.{Net}
use Rattle.flat_circuit.specs.Builder.{is_asserted}
use Rattle.flat_circuit.specs.declared.fault.Fault.{Fault}
use Rattle.flat_circuit.specs.declared.fault.Fault.TheVariants.{Assertion}
use Rattle.pin_waves.specs.Interface.{wide_wave}
use Rattle.gate_eval.specs.Hold.{first_some}
use Rattle.point_check.specs.Window.{Folds}

-- a net that something drives, and whose name asserts something
abbrev pub is_held : Net → Bool
is_held net = is_some net.driver && is_asserted net.spec

-- the one value permits a step that the other does not
abbrev pub exceeds : Value → Value → Bool
exceeds v wide = some_step v (λ before after. not (has wide before after))

-- the first slot in which it does
abbrev pub first_excess : ℕ → Folds → Folds → Option ℕ
first_excess p found wide =
    first_some (λ s. if exceeds (found s) (wide s) then Some s else None) p 0

abbrev pub fault_in : ℕ → Folds → ℕ → Fault
fault_in i found s = Assertion i s (letter_of (found s))

-- the fault of net i, which asserts this, by its wave
unfoldable pub assertion_fault : Header → AssertSpec → ℕ → Wave Value → Option Fault
assertion_fault h spec i w =
    option_map (fault_in i (fold values w))
    (first_excess (period h) (fold values w) (cell_at values (wide_wave h spec)))
