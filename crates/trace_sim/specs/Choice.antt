-- What a run is made from: delays within their bounds, bits of the nets that nothing drives, and
-- free bits of the others.
use Rattle.std.specs.Prelude.{◌≡◌, ℕ, Bool, List, [], ◌∷◌, length, All, slice_get, Option, Some, None, ⊤}
use Rattle.element_kinds.specs.declared.kind.Kind.{Kind}
use Rattle.element_kinds.specs.declared.form.Form.{Form}
use Rattle.element_kinds.specs.declared.form.Form.TheVariants.{Gate, Change, Register, Latch as Enabled, Checker}
use Rattle.element_kinds.specs.Kinds.{form_of}
use Rattle.flat_circuit.specs.declared.split.Split.{Split}
use Rattle.flat_circuit.specs.declared.instance.Instance.{Instance}
use Rattle.flat_circuit.specs.Split.{two_delays}
use Rattle.flat_circuit.specs.Circuit.{Circuit}
use Rattle.flat_circuit.specs.Run.{Choice as Chosen, DelaysFit, WiresFit}
use Rattle.trace_sim.specs.declared.choice.Choice.{Choice}

-- the bits of each net
abbrev pub Bits : Type 0
Bits = List (List Bool)

-- the delays at an instance, as a run has them
abbrev pub chosen : ℕ × ℕ → List ℕ → Chosen
chosen pick wires = record { delay = pick.0; rise = pick.0; fall = pick.1; wires = wires }

-- those at all instances
abbrev pub all_chosen : List (ℕ × ℕ) → List (List ℕ) → List Chosen
all_chosen [] wires = []
all_chosen (p ∷ ps) [] = []
all_chosen (p ∷ ps) (ws ∷ wss) = chosen p ws ∷ all_chosen ps wss

abbrev pub choices_of : Choice → List Chosen
choices_of choice = all_chosen choice.delays choice.wires

-- by the form of a kind
abbrev pub IsOneDelayForm : Form → ℕ × ℕ → Type 0
IsOneDelayForm Gate pick = pick.0 ≡ pick.1
IsOneDelayForm Change pick = ⊤
IsOneDelayForm (Register forced) pick = pick.0 ≡ pick.1
IsOneDelayForm (Enabled forced) pick = pick.0 ≡ pick.1
IsOneDelayForm (Checker check) pick = ⊤

-- If there are not two delays, both numbers are the one. A change function and a checker have
-- none, whatever is picked.
abbrev pub IsOneDelay : Kind → Option Split → ℕ × ℕ → Type 0
IsOneDelay kind None pick = IsOneDelayForm (form_of kind) pick
IsOneDelay kind (Some s) pick = ⊤

-- the picks at an instance are within its bounds and those of its nets
pub record PickFits (c : Circuit) (i : Instance) (pick : ℕ × ℕ) (wires : List ℕ) : Type 0 where
  pub delay : DelaysFit i.kind i.delay (two_delays i.kind i.split) (chosen pick wires)
  pub one : IsOneDelay i.kind (two_delays i.kind i.split) pick
  pub wire : WiresFit c.nets i.pins wires

-- the picks at the instance of a number, if there are any
abbrev pub PickFitsAt : Circuit → Choice → ℕ → Type 0
PickFitsAt c choice k =
    (i : Instance) (pick : ℕ × ℕ) (wires : List ℕ) → slice_get c.instances k ≡ Some i →
    slice_get choice.delays k ≡ Some pick → slice_get choice.wires k ≡ Some wires →
    PickFits c i pick wires

-- a bit for each net and each tick
pub record AreTraces (nets ticks : ℕ) (bits : Bits) : Type 0 where
  pub rows : length bits ≡ nets
  pub long : All (λ (row : List Bool). length row ≡ ticks) bits

-- There is a pick of delays for each instance and of a wire's delay for each of its pins, and there
-- are bits of each net.
pub record ChoiceFits (c : Circuit) (choice : Choice) (ticks : ℕ) : Type 0 where
  pub delays : length choice.delays ≡ length c.instances
  pub wires : length choice.wires ≡ length c.instances
  pub fits : (k : ℕ) → PickFitsAt c choice k
  pub inputs : AreTraces (length c.nets) ticks choice.inputs
  pub free : AreTraces (length c.nets) ticks choice.free
