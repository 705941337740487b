-- Bits that anyone wrote, judged by the equations of a circuit.
use Rattle.std.specs.Prelude.{◌≡◌, ℕ, ◌<◌, Bool, true, false, if◌then◌else◌, List, length, slice_get, Option, Some, None}
use Rattle.vector_names.specs.declared.bits.Target.{Target}
use Rattle.vector_names.specs.declared.bits.Target.TheVariants.{Net as OnNet}
use Rattle.flat_circuit.specs.declared.instance.Instance.{Instance}
use Rattle.flat_circuit.specs.Split.{two_delays}
use Rattle.flat_circuit.specs.Circuit.{Circuit}
use Rattle.flat_circuit.specs.Run.{Choice as Chosen, EquationWith, IsAskedWith, Obeys, Run, out_signal, pin_signals}
use Rattle.trace_sim.specs.declared.choice.Choice.{Choice}
use Rattle.trace_sim.specs.Choice.{Bits, PickFitsAt}
use Rattle.trace_sim.specs.Making.{fixed_in, seen}

-- At this tick the equation of instance k is required, and does not hold.
pub record FailsAt (c : Circuit) (run : Run) (k t : ℕ) : Type 0 where
  pub instance : Instance
  pub choice : Chosen
  pub instance_is : slice_get c.instances k ≡ Some instance
  pub choice_is : slice_get run.choices k ≡ Some choice
  pub within : t < run.ticks
  pub asked : IsAskedWith instance.kind instance.delay
      (two_delays instance.kind instance.split) choice t
  pub fails : EquationWith instance.kind instance.delay
      (two_delays instance.kind instance.split) choice
      (pin_signals run instance.pins choice.wires)
      (out_signal run instance.out instance.out_inverted) t → ⊥

-- The first tick at which an equation does not hold, and there the first instance, which drives
-- this net.
pub record FailsFirst (c : Circuit) (run : Run) (t net : ℕ) : Type 0 where
  pub number : ℕ
  pub at : FailsAt c run number t
  pub drives : at.instance.out ≡ Some (OnNet net)
  pub no_sooner : (j u : ℕ) → u < t → FailsAt c run j u → ⊥
  pub no_other : (j : ℕ) → j < number → FailsAt c run j t → ⊥

-- every equation holds wherever it is required
abbrev pub EachObeys : Circuit → Run → Type 0
EachObeys c run =
    (k : ℕ) (i : Instance) (choice : Chosen) → slice_get c.instances k ≡ Some i →
    slice_get run.choices k ≡ Some choice →
    Obeys run.ticks i.kind i.delay (two_delays i.kind i.split) choice
    (pin_signals run i.pins choice.wires)
    (out_signal run i.out i.out_inverted)

-- ---- the same by the bit that an equation fixes

-- a bit is fixed, and the output is another
abbrev pub contradicts : Option Bool → Bool → Bool
contradicts None out = false
contradicts (Some true) out = if out then false else true
contradicts (Some false) out = out

-- the net of an output that is other than its equation says
abbrev pub failing_by : Option Target → Bool → Option ℕ
failing_by (Some (OnNet net)) true = Some net
failing_by out fails = None

abbrev pub failing_net : Run → Instance → Chosen → ℕ → Option ℕ
failing_net run i choice t =
    failing_by i.out (contradicts (fixed_in run i choice t) (out_signal run i.out i.out_inverted t))

-- the output of instance k is not other at the tick than its equation says
abbrev pub IsFine : Circuit → List Chosen → Bits → ℕ → ℕ → Type 0
IsFine c choices bits t k =
    (i : Instance) (at : Chosen) → slice_get c.instances k ≡ Some i →
    slice_get choices k ≡ Some at →
    failing_net (seen bits) i at t ≡ None

-- that of no instance is, of the first so many
abbrev pub AreFine : Circuit → List Chosen → Bits → ℕ → ℕ → Type 0
AreFine c choices bits t count = (k : ℕ) → k < count → IsFine c choices bits t k

-- the first instance whose output is, and the net that it drives
pub record IsFirst (c : Circuit) (choices : List Chosen) (bits : Bits) (t net : ℕ) : Type 0 where
  pub number : ℕ
  pub instance : Instance
  pub at : Chosen
  pub instance_is : slice_get c.instances number ≡ Some instance
  pub at_is : slice_get choices number ≡ Some at
  pub fails : failing_net (seen bits) instance at t ≡ Some net
  pub no_other : AreFine c choices bits t number

-- There is a pick for each instance, and it fits.
pub record ArePicks (c : Circuit) (choice : Choice) : Type 0 where
  pub delays : length choice.delays ≡ length c.instances
  pub wires : length choice.wires ≡ length c.instances
  pub fits : (k : ℕ) → PickFitsAt c choice k
