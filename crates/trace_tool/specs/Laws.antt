-- What holds of traces and their texts.
use Rattle.std.specs.Prelude.{◌≡◌, ℕ, List}
use Rattle.flat_circuit.specs.Circuit.{Circuit, IsCircuit}
use Rattle.trace_tool.specs.declared.extent.Extent.{Extent}
use Rattle.trace_tool.specs.declared.trace.Trace.{Trace}
use Rattle.trace_tool.specs.Reading.{IsReadAs}

-- what two traces have in common
pub record AreAlike (t u : Trace) : Type 0 where
  pub ticks : t.ticks ≡ u.ticks
  pub bits : t.bits ≡ u.bits

-- Lines say the ticks and every bit: traces of a circuit with the same lines have the same ones. So
-- what is read of a text that was written has the bits that were written.
abbrev pub LinesSayBits : Type 0
LinesSayBits = (e : Extent) (c : Circuit) (lines : List (List ℕ)) (t u : Trace) → IsCircuit c →
    IsReadAs e c lines t → IsReadAs e c lines u → AreAlike t u
