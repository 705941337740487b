-- The run that is made from a choice: where its bits come from.
use Rattle.std.specs.Prelude.{◌≡◌, ◌≢◌, ℕ, ◌-◌, ◌<◌, Bool, true, false, List, [], slice_get, slice_index_or, ◌⊎◌, Some, None}
use Rattle.scald_base.specs.Time.{Bounds}
use Rattle.scald_base.specs.Signal.{Signal}
use Rattle.vector_names.specs.declared.bits.Target.TheVariants.{Net as OnNet}
use Rattle.element_kinds.specs.declared.form.Form.{Form}
use Rattle.element_kinds.specs.declared.form.Form.TheVariants.{Gate, Change, Register, Latch as Enabled, Checker}
use Rattle.element_kinds.specs.Kinds.{form_of}
use Rattle.element_kinds.specs.Equation.{nth_signal, IsInReach}
use Rattle.flat_circuit.specs.declared.instance.Instance.{Instance}
use Rattle.flat_circuit.specs.Split.{two_delays}
use Rattle.flat_circuit.specs.Circuit.{Circuit, driver_at}
use Rattle.flat_circuit.specs.Run.{Choice as Chosen, Run, pin_signals, IsAskedWith, IsRun}
use Rattle.trace_sim.specs.declared.choice.Choice.{Choice}
use Rattle.trace_sim.specs.Choice.{Bits, choices_of}

-- the bit of a net at a tick
abbrev pub bit_of : Bits → ℕ → ℕ → Bool
bit_of bits n t = slice_index_or (slice_index_or bits n []) t false

-- bits, as those of a run
abbrev pub run_of : ℕ → List Chosen → Bits → Run
run_of ticks choices bits = record { ticks = ticks; choices = choices; bits = bits }

-- ---- where an equation leaves the output's bit open

-- some pin steps at a tick in the reach of a change function
pub record MayChange (bounds : Bounds) (signals : List Signal) (t : ℕ) : Type 0 where
  pub at : ℕ
  pub in_reach : IsInReach bounds t at
  pub pin : ℕ
  pub steps : nth_signal signals pin (at - 1) ≢ nth_signal signals pin at

-- a set and a reset, if there are such pins, are both 1
abbrev pub AreBoth : Bool → List Signal → ℕ → Type 0
AreBoth false signals s = ⊥
AreBoth true signals s = (nth_signal signals 2 s ≡ true) × (nth_signal signals 3 s ≡ true)

-- by the form of a kind
abbrev pub IsOpenForm : Form → Bounds → ℕ → List Signal → ℕ → Type 0
IsOpenForm Gate bounds delay signals t = ⊥
IsOpenForm Change bounds delay signals t = MayChange bounds signals t
IsOpenForm (Register forced) bounds delay signals t = AreBoth forced signals (t - delay)
IsOpenForm (Enabled forced) bounds delay signals t = AreBoth forced signals (t - delay)
IsOpenForm (Checker check) bounds delay signals t = ⊥

-- The equation of an instance says nothing of its output at a tick: it is not asked there, or it
-- leaves the bit open.
abbrev pub LeavesFree : Run → Instance → Chosen → ℕ → Type 0
LeavesFree run i choice t =
    (IsAskedWith i.kind i.delay (two_delays i.kind i.split) choice t → ⊥)
    ⊎ IsOpenForm (form_of i.kind) i.delay choice.delay (pin_signals run i.pins choice.wires) t

-- ---- the run

-- The bits are those of a run with the delays that were picked. Nets that nothing drives have their
-- inputs, and each driven net has its free bit at each tick of which its equation says nothing.
pub record IsSimulated (c : Circuit) (choice : Choice) (ticks : ℕ) (bits : Bits) : Type 0 where
  pub is_run : IsRun c (run_of ticks (choices_of choice) bits)
  pub inputs : (n t : ℕ) → driver_at c.nets n ≡ None → bit_of bits n t ≡ bit_of choice.inputs n t
  pub free : (k n t : ℕ) (i : Instance) (at : Chosen) → slice_get c.instances k ≡ Some i →
      slice_get (choices_of choice) k ≡ Some at → i.out ≡ Some (OnNet n) → t < ticks →
      LeavesFree (run_of ticks (choices_of choice) bits) i at t →
      bit_of bits n t ≡ bit_of choice.free n t
