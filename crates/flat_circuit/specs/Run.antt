-- Runs of a circuit: bits on plain ticks, with no period and no skew.
use Rattle.std.specs.Prelude.{◌≡◌, ℕ, ◌-◌, ◌<◌, ◌≤◌, Bool, false, List, [], ◌∷◌, length, All, slice_get, slice_index_or, Option, Some, None, ⊤}
use Rattle.scald_base.specs.Time.{Bounds}
use Rattle.scald_base.specs.Signal.{Signal, turned}
use Rattle.vector_names.specs.declared.bits.Target.{Target}
use Rattle.vector_names.specs.declared.bits.Target.TheVariants.{Net as OnNet, Constant}
use Rattle.element_kinds.specs.declared.kind.Kind.{Kind}
use Rattle.element_kinds.specs.declared.form.Form.{Form}
use Rattle.element_kinds.specs.declared.form.Form.TheVariants.{Gate, Change, Register, Latch as Enabled, Checker}
use Rattle.element_kinds.specs.Kinds.{form_of}
use Rattle.flat_circuit.specs.declared.instance.Pin.{Pin}
use Rattle.flat_circuit.specs.declared.instance.Instance.{Instance}
use Rattle.flat_circuit.specs.declared.net.Net.{Net}
use Rattle.flat_circuit.specs.declared.split.Split.{Split}
use Rattle.flat_circuit.specs.Circuit.{Circuit}
use Rattle.element_kinds.specs.Equation.{Equation, IsAsked}
use Rattle.flat_circuit.specs.Split.{two_delays, SplitEquation, IsSplitAsked}

-- What a run chooses at an instance: its delay, or if it has two its rise and its fall delay,
-- and the delay of the wire to each of its pins.
pub record Choice : Type 0 where
  pub delay : ℕ
  pub rise : ℕ
  pub fall : ℕ
  pub wires : List ℕ

-- so many ticks, the choices at each instance, and the bits of each net
pub record Run : Type 0 where
  pub ticks : ℕ
  pub choices : List Choice
  pub bits : List (List Bool)

abbrev pub net_signal : Run → ℕ → Signal
net_signal run i t = slice_index_or (slice_index_or run.bits i []) t false

-- what is seen of a net, or of a constant, through a wire of this delay
abbrev pub target_signal : Run → Target → ℕ → Signal
target_signal run (OnNet i) wire t = net_signal run i (t - wire)
target_signal run (Constant b) wire t = b

-- what a pin shows
abbrev pub pin_signal : Run → Pin → ℕ → Signal
pin_signal run pin wire t = turned pin.inverted (target_signal run pin.target wire t)

abbrev pub pin_signals : Run → List Pin → List ℕ → List Signal
pin_signals run [] wires = []
pin_signals run (p ∷ ps) [] = []
pin_signals run (p ∷ ps) (w ∷ ws) = pin_signal run p w ∷ pin_signals run ps ws

-- the output of an instance, complemented back if it is marked; a checker has none
abbrev pub out_signal : Run → Option Target → Bool → Signal
out_signal run None inverted t = false
out_signal run (Some target) inverted t = turned inverted (target_signal run target 0 t)

abbrev pub Within : Bounds → ℕ → Type 0
Within d n = (d.min ≤ n) × (n ≤ d.max)

-- by the form of a kind
abbrev pub DelayFitsForm : Form → Bounds → ℕ → Type 0
DelayFitsForm Gate d n = Within d n
DelayFitsForm Change d n = ⊤
DelayFitsForm (Register forced) d n = Within d n
DelayFitsForm (Enabled forced) d n = Within d n
DelayFitsForm (Checker check) d n = ⊤

-- An instance has one delay for the whole of a run. A change function has none, since each of its
-- changes may come after another delay, and a checker has none.
abbrev pub DelayFits : Kind → Bounds → ℕ → Type 0
DelayFits kind d n = DelayFitsForm (form_of kind) d n

-- A gate with two delays has one rise delay and one fall delay for the whole of a run, each within
-- its own bounds.
abbrev pub DelaysFit : Kind → Bounds → Option Split → Choice → Type 0
DelaysFit kind d None choice = DelayFits kind d choice.delay
DelaysFit kind d (Some s) choice = Within s.rise choice.rise × Within s.fall choice.fall

abbrev pub net_wire_fits : Option Net → ℕ → Type 0
net_wire_fits None w = ⊥
net_wire_fits (Some net) w = Within net.wire w

-- the wire to a pin has a delay within its net's bounds; a constant has none
abbrev pub WireFits : List Net → Target → ℕ → Type 0
WireFits nets (OnNet i) w = net_wire_fits (slice_get nets i) w
WireFits nets (Constant b) w = w ≡ 0

abbrev pub WiresFit : List Net → List Pin → List ℕ → Type 0
WiresFit nets [] [] = Unit {0}
WiresFit nets (p ∷ ps) (w ∷ ws) = WireFits nets p.target w × WiresFit nets ps ws
WiresFit nets _ _ = ⊥

-- the equation with the delays of a choice, and the ticks at which it is asked
abbrev pub EquationWith : Kind → Bounds → Option Split → Choice → List Signal → Signal → ℕ → Type 0
EquationWith kind d None choice signals output t = Equation kind d choice.delay signals output t
EquationWith kind d (Some s) choice signals output t =
    SplitEquation kind choice.rise choice.fall signals output t

abbrev pub IsAskedWith : Kind → Bounds → Option Split → Choice → ℕ → Type 0
IsAskedWith kind d None choice t = IsAsked kind d choice.delay choice.wires t
IsAskedWith kind d (Some s) choice t = IsSplitAsked choice.rise choice.fall choice.wires t

-- the equation holds at each tick of the run at which it is asked
abbrev pub Obeys : ℕ → Kind → Bounds → Option Split → Choice → List Signal → Signal → Type 0
Obeys ticks kind d split choice signals output =
    (t : ℕ) → t < ticks → IsAskedWith kind d split choice t →
    EquationWith kind d split choice signals output t

pub record IsRunAt (c : Circuit) (run : Run) (i : Instance) (choice : Choice) : Type 0 where
  pub delay : DelaysFit i.kind i.delay (two_delays i.kind i.split) choice
  pub wires : WiresFit c.nets i.pins choice.wires
  pub obeys : Obeys run.ticks i.kind i.delay (two_delays i.kind i.split) choice
      (pin_signals run i.pins choice.wires) (out_signal run i.out i.out_inverted)

-- Each net has a bit for each tick, and each instance a choice within its bounds. Nothing is said
-- of the start.
pub record IsRun (c : Circuit) (run : Run) : Type 0 where
  pub nets : length run.bits ≡ length c.nets
  pub long : All (λ bits. length bits ≡ run.ticks) run.bits
  pub instances : length run.choices ≡ length c.instances
  pub at : (k : ℕ) (i : Instance) (choice : Choice) → slice_get c.instances k ≡ Some i →
      slice_get run.choices k ≡ Some choice → IsRunAt c run i choice
