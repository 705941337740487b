-- What holds of the inputs that a seed draws.
use Rattle.std.specs.Prelude.{◌≡◌, ℕ, ◌<◌, Bool, List, slice_get, Some, None, ⊤}
use Rattle.scald_base.specs.Time.{IsHeader}
use Rattle.scald_base.specs.declared.assertion.AssertSpec.{AssertSpec}
use Rattle.scald_base.specs.declared.assertion.AssertSpec.TheVariants.{None as Unasserted, Precision, Clock, Stable}
use Rattle.flat_circuit.specs.declared.case.CaseValue.{CaseValue}
use Rattle.flat_circuit.specs.declared.net.Net.{Net}
use Rattle.flat_circuit.specs.Circuit.{Circuit, IsCircuit}
use Rattle.flat_circuit.specs.Alike.{value_in}
use Rattle.pin_waves.specs.Meets.{Meets}
use Rattle.trace_sim.specs.declared.choice.Choice.{Choice}
use Rattle.trace_sim.specs.Simulated.{bit_of}
use Rattle.trace_sim.specs.Input.{IsDrawn}

-- a net that keeps this assertion may be constant
abbrev pub MayStay : AssertSpec → Type 0
MayStay Unasserted = ⊤
MayStay (Precision c) = ⊥
MayStay (Clock c) = ⊥
MayStay (Stable spans) = ⊤

-- no clock has a value in the case
abbrev pub SetsNoClock : Circuit → List CaseValue → Type 0
SetsNoClock c values =
    (i : ℕ) (net : Net) (one : Bool) → slice_get c.nets i ≡ Some net →
    value_in values i ≡ Some one → MayStay net.spec

-- each net that nothing drives keeps its assertion
abbrev pub InputsMeet : Type 0
InputsMeet = (c : Circuit) (values : List CaseValue) (ticks seed : ℕ) (choice : Choice) →
    IsCircuit c →
    IsHeader c.header → SetsNoClock c values → IsDrawn c values ticks seed choice →
    (i : ℕ) (net : Net) →
    slice_get c.nets i ≡ Some net → net.driver ≡ None →
    Meets c.header net.spec ticks (bit_of choice.inputs i)

-- each net of the case is constant, at its value
abbrev pub CasesHold : Type 0
CasesHold = (c : Circuit) (values : List CaseValue) (ticks seed : ℕ) (choice : Choice) →
    IsCircuit c →
    IsDrawn c values ticks seed choice → (i t : ℕ) (net : Net) (one : Bool) →
    slice_get c.nets i ≡ Some net →
    value_in values i ≡ Some one → t < ticks → bit_of choice.inputs i t ≡ one

-- a seed draws one choice in a case
abbrev pub OneDrawn : Type 0
OneDrawn = (c : Circuit) (values : List CaseValue) (ticks seed : ℕ) (choice other : Choice) →
    IsCircuit c →
    IsDrawn c values ticks seed choice → IsDrawn c values ticks seed other → choice ≡ other
