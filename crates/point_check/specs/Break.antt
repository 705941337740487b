-- Constraints of a run that are broken, at ticks of the run. The one wave that is spoken of is the
-- wide wave of an assertion, and no word here is one of those that say which faults checks find.
use Rattle.std.specs.Prelude.{◌≡◌, ◌≢◌, ℕ, ◌+◌, ◌-◌, ◌%◌, ◌<◌, ◌≤◌, Bool, true, false, length, slice_get, Option, Some, None, ⊤}
use Rattle.scald_base.specs.Time.{Header, period}
use Rattle.scald_base.specs.Signal.{Signal}
use Rattle.scald_base.specs.declared.assertion.AssertSpec.{AssertSpec}
use Rattle.scald_base.specs.declared.assertion.AssertSpec.TheVariants.{None as Unasserted, Precision, Clock, Stable}
use Rattle.step_values.specs.declared.value.Value.{Value}
use Rattle.step_values.specs.Steps.{has}
use Rattle.step_values.specs.Cell.{values}
use Rattle.skew_algebra.specs.Wave.{cell_at}
use Rattle.element_kinds.specs.declared.kind.Kind.{Kind}
use Rattle.element_kinds.specs.declared.form.Check.{Check}
use Rattle.element_kinds.specs.declared.form.Check.TheVariants.{SetupHold as AboutRise, RiseFall as RiseToFall, MinPulse as Widths}
use Rattle.element_kinds.specs.declared.form.Form.{Form}
use Rattle.element_kinds.specs.declared.form.Form.TheVariants.{Gate, Change, Register, Latch as Enabled, Checker}
use Rattle.element_kinds.specs.Kinds.{form_of, closes_of}
use Rattle.flat_circuit.specs.Limits.{setup_of, hold_of}
use Rattle.flat_circuit.specs.declared.instance.Pin.{Pin}
use Rattle.flat_circuit.specs.declared.instance.Instance.{Instance}
use Rattle.flat_circuit.specs.declared.net.Net.{Net}
use Rattle.flat_circuit.specs.Circuit.{Circuit}
use Rattle.flat_circuit.specs.Run.{Run, Choice, net_signal}
use Rattle.pin_waves.specs.Interface.{wide_wave}
use Rattle.fixpoint_engine.specs.Pins.{pin_at, StepsFrom}

-- ---- steps of a signal

abbrev pub Rises : Signal → ℕ → Type 0
Rises x t = (x (t - 1) ≡ false) × (x t ≡ true)

abbrev pub Changes : Signal → ℕ → Type 0
Changes x t = x (t - 1) ≢ x t

-- the signal rises at one tick and next falls at the other
pub record IsHighTo (x : Signal) (rise fall : ℕ) : Type 0 where
  pub rises : Rises x rise
  pub ordered : rise < fall
  pub high : (t : ℕ) → rise ≤ t → t < fall → x t ≡ true
  pub falls : x fall ≡ false

-- ---- breaks of instances, each with the ticks that it names

-- The clock rises at one tick, and the input changes at another, after `edge - setup` and up to
-- `edge + hold`.
pub record IsSetupHoldBreak (run : Run) (j : Instance) (choice : Choice) (start edge change : ℕ) :
    Type 0 where
  pub edge_in : StepsFrom run choice 0 start edge
  pub change_in : StepsFrom run choice 1 start change
  pub rises : Rises (pin_at run j choice 0) edge
  pub changes : Changes (pin_at run j choice 1) change
  pub not_before : edge + 1 ≤ change + setup_of j.limits
  pub not_after : change ≤ edge + hold_of j.limits

pub record BreaksSetupHold (run : Run) (j : Instance) (choice : Choice) (start : ℕ) : Type 0 where
  pub edge : ℕ
  pub change : ℕ
  pub at : IsSetupHoldBreak run j choice start edge change

-- The clock rises at one tick and next falls at another, and the input changes at a third, after
-- `edge - setup` and up to `fall + hold`.
pub record IsRiseFallBreak (run : Run) (j : Instance) (choice : Choice)
    (start edge fall change : ℕ) : Type 0 where
  pub edge_in : StepsFrom run choice 0 start edge
  pub fall_in : StepsFrom run choice 0 start fall
  pub change_in : StepsFrom run choice 1 start change
  pub is_high : IsHighTo (pin_at run j choice 0) edge fall
  pub changes : Changes (pin_at run j choice 1) change
  pub not_before : edge + 1 ≤ change + setup_of j.limits
  pub not_after : change ≤ fall + hold_of j.limits

pub record BreaksRiseFall (run : Run) (j : Instance) (choice : Choice) (start : ℕ) : Type 0 where
  pub edge : ℕ
  pub fall : ℕ
  pub change : ℕ
  pub at : IsRiseFallBreak run j choice start edge fall change

-- the pin does not stay at this bit
abbrev pub Leaves : Signal → Bool → ℕ → Type 0
Leaves x bit t = ¬ ((x (t - 1) ≡ bit) × (x t ≡ bit))

-- the pin of this number has the mark `!H`
pub record HasMark (j : Instance) (i : ℕ) : Type 0 where
  pub pin : Pin
  pub pin_is : slice_get j.pins i ≡ Some pin
  pub holds : pin.hold ≡ true

-- At a tick the marked pin's step is other than to stay at the bit beside which the others do not
-- matter, and another pin changes.
pub record IsMarkBreak (run : Run) (j : Instance) (choice : Choice) (closed : Bool)
    (start marked pin tick : ℕ) : Type 0 where
  pub is_marked : HasMark j marked
  pub below : pin < length j.pins
  pub apart : pin ≢ marked
  pub marked_in : StepsFrom run choice marked start tick
  pub pin_in : StepsFrom run choice pin start tick
  pub leaves : Leaves (pin_at run j choice marked) closed tick
  pub changes : Changes (pin_at run j choice pin) tick

pub record BreaksMark (run : Run) (j : Instance) (choice : Choice) (closed : Bool) (start : ℕ) :
    Type 0 where
  pub marked : ℕ
  pub pin : ℕ
  pub tick : ℕ
  pub at : IsMarkBreak run j choice closed start marked pin tick

-- Those of this crate, by what a checker checks; a pulse's width is none of them.
abbrev pub BreaksCheck : Check → Run → Instance → Choice → ℕ → Type 0
BreaksCheck AboutRise run j choice start = BreaksSetupHold run j choice start
BreaksCheck RiseToFall run j choice start = BreaksRiseFall run j choice start
BreaksCheck Widths run j choice start = ⊥

-- Beside the bit that settles the output the other pins do not matter: beside a 0 those of an AND,
-- and beside a 1 those of an OR.
abbrev pub BreaksClosed : Option Bool → Run → Instance → Choice → ℕ → Type 0
BreaksClosed None run j choice start = ⊥
BreaksClosed (Some closed) run j choice start = BreaksMark run j choice closed start

abbrev pub BreaksForm : Form → Option Bool → Run → Instance → Choice → ℕ → Type 0
BreaksForm Gate closes run j choice start = BreaksClosed closes run j choice start
BreaksForm Change closes run j choice start = ⊥
BreaksForm (Register forced) closes run j choice start = ⊥
BreaksForm (Enabled forced) closes run j choice start = ⊥
BreaksForm (Checker check) closes run j choice start = BreaksCheck check run j choice start

abbrev pub BreaksKind : Kind → Run → Instance → Choice → ℕ → Type 0
BreaksKind kind run j choice start = BreaksForm (form_of kind) (closes_of kind) run j choice start

-- the constraint of instance k is broken, at ticks from a given one on
pub record BreaksInstance (c : Circuit) (run : Run) (k start : ℕ) : Type 0 where
  pub instance : Instance
  pub choice : Choice
  pub instance_is : slice_get c.instances k ≡ Some instance
  pub choice_is : slice_get run.choices k ≡ Some choice
  pub breaks : BreaksKind instance.kind run instance choice start

-- ---- assertions

-- a name of this assertion asserts something
abbrev pub Asserts : AssertSpec → Type 0
Asserts Unasserted = ⊥
Asserts (Precision clock) = ⊤
Asserts (Clock clock) = ⊤
Asserts (Stable spans) = ⊤

-- what the assertion's wide wave has in the slot of a tick
abbrev pub wide_at : Header → AssertSpec → ℕ → Value
wide_at h spec t = cell_at values (wide_wave h spec) (t % period h)

-- At this tick a net of the assertion keeps it: the step is one that the wide wave has in the
-- tick's slot. That is asked of each tick by itself, so another offset may explain another tick.
abbrev pub KeepsAssertion : Header → AssertSpec → Signal → ℕ → Type 0
KeepsAssertion h spec x t = has (wide_at h spec t) (x (t - 1)) (x t) ≡ true

-- At a tick net i, which something drives and whose name asserts something, makes a step that the
-- assertion's wide wave has not in the tick's slot.
pub record IsNetBreak (c : Circuit) (run : Run) (i start : ℕ) (net : Net) (driver tick : ℕ) :
    Type 0 where
  pub net_is : slice_get c.nets i ≡ Some net
  pub is_driven : net.driver ≡ Some driver
  pub asserts : Asserts net.spec
  pub after : start ≤ tick
  pub begins : 1 ≤ tick
  pub ends : tick < run.ticks
  pub lacks : has (wide_at c.header net.spec tick) (net_signal run i (tick - 1))
      (net_signal run i tick) ≡ false

pub record BreaksNet (c : Circuit) (run : Run) (i start : ℕ) : Type 0 where
  pub net : Net
  pub driver : ℕ
  pub tick : ℕ
  pub at : IsNetBreak c run i start net driver tick
