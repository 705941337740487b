-- The choices of a run, and their bounds.
use Rattle.std.specs.Prelude.{◌≡◌, ℕ, ◌+◌, ◌<◌, ◌≤◌, false, true, List, slice_get, None, Some}
use Rattle.scald_base.specs.Time.{Bounds, Header}
use Rattle.scald_base.specs.declared.assertion.AssertSpec.TheVariants.{Precision}
use Rattle.scald_base.specs.declared.assertion.ClockSpec.{ClockSpec}
use Rattle.element_kinds.specs.Kinds.{form_of}
use Rattle.flat_circuit.specs.declared.instance.Instance.{Instance}
use Rattle.flat_circuit.specs.declared.instance.Pin.{Pin as CircuitPin}
use Rattle.flat_circuit.specs.declared.net.Net.{Net as CircuitNet}
use Rattle.flat_circuit.specs.Split.{two_delays}
use Rattle.fixpoint_engine.specs.Waves.{target_wire}
use Rattle.narrowing.specs.Part.{HasDelay, most_late}
use Rattle.flat_circuit.specs.declared.case.CaseValue.{CaseValue}
use Rattle.flat_circuit.specs.Circuit.{Circuit}
use Rattle.narrowing.specs.declared.constraint.Constraint.{Constraint}
use Rattle.run_clauses.specs.declared.choices.Range.{Range}
use Rattle.run_clauses.specs.declared.fact.Fact.{Fact}
use Rattle.run_clauses.specs.declared.fact.Fact.TheVariants.{Beside, Delay, Fall, First, Lasts, Net, Offset, Own, Parity, Pin, Rise, Second, Step, Wire}
use Rattle.run_clauses.specs.Meaning.{Bits}
use Rattle.run_clauses.specs.World.{IsWorld, World, fact_holds}

-- that the same choice is another number; of other facts the fact itself
abbrev pub choosing : Fact → ℕ → Fact
choosing (Delay k d) n = Delay k n
choosing (Rise k d) n = Rise k n
choosing (Fall k d) n = Fall k n
choosing (Wire k pin d) n = Wire k pin n
choosing (Offset i by) n = Offset i n
choosing (Lasts t) n = Lasts t
choosing (Net i t) n = Net i t
choosing (Pin k pin t) n = Pin k pin t
choosing (Step k pin t) n = Step k pin t
choosing (Own k t) n = Own k t
choosing (Parity k pin t) n = Parity k pin t
choosing (First t) n = First t
choosing (Second t) n = Second t
choosing (Beside pin) n = Beside pin

-- ---- the bounds of a choice

-- the numbers within bounds
abbrev pub numbers : Bounds → Range
numbers b = record { from = b.min; end = b.max + 1 }

-- The instance has one delay, and these are its numbers.
pub record IsOfDelay (j : Instance) (range : Range) : Type 0 where
  pub one : two_delays j.kind j.split ≡ None
  pub has : HasDelay (form_of j.kind)
  pub is : range ≡ numbers j.delay

-- those of the wire to the pin at a place
pub record IsOfWire (c : Circuit) (j : Instance) (place : ℕ) (range : Range) : Type 0 where
  pub pin : CircuitPin
  pub there : slice_get j.pins place ≡ Some pin
  pub is : range ≡ numbers (target_wire c.nets pin.target)

-- by how much a `.P` clock that nothing drives may be later than at its earliest
pub record IsOfClock (h : Header) (net : CircuitNet) (range : Range) : Type 0 where
  pub clock : ClockSpec
  pub undriven : net.driver ≡ None
  pub precise : net.spec ≡ Precision clock
  pub is : range ≡ record { from = 0; end = most_late h clock + 1 }

-- ---- that a choice is within its bounds

-- in a world the choice is one of the numbers
pub record IsChosen (c : Circuit) (w : World) (fact : Fact) (range : Range) : Type 0 where
  pub number : ℕ
  pub from : range.from ≤ number
  pub end : number < range.end
  pub is : fact_holds c w (choosing fact number) ≡ true

-- it is none of them
abbrev pub IsNoneOf : Fact → Range → Bits → Type 0
IsNoneOf fact range bits =
    (n : ℕ) → n < range.end → range.from ≤ n → bits (choosing fact n) ≡ false

-- In every world it is one. Where a run has no such choice, as of the delay of a change function,
-- no bounds are given.
abbrev pub AreBounds : Circuit → Fact → Range → Type 0
AreBounds c fact range =
    (values : List CaseValue) (x : Constraint) (printed : ℕ) (w : World) →
    IsWorld c values x printed w → IsChosen c w fact range
