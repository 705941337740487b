-- What facts say of a run that has a break: of its bits, its choices, and the ticks that the break
-- names.
use Rattle.std.specs.Prelude.{◌≡◌, ℕ, ◌-◌, ◌≤◌, ◌==◌, Bool, true, false, nat_lt, List, [], drop, slice_get, slice_index_or, Option, Some, None}
use Rattle.scald_base.specs.Signal.{Signal}
use Rattle.scald_base.specs.declared.assertion.ClockSpec.{ClockSpec}
use Rattle.element_kinds.specs.Equation.{bits_at, gate_bit, nth_signal, parity}
use Rattle.flat_circuit.specs.declared.case.CaseValue.{CaseValue}
use Rattle.flat_circuit.specs.declared.instance.Instance.{Instance}
use Rattle.flat_circuit.specs.Circuit.{Circuit}
use Rattle.flat_circuit.specs.Run.{Choice, Run, net_signal, pin_signals}
use Rattle.narrowing.specs.declared.constraint.Constraint.{Constraint}
use Rattle.narrowing.specs.declared.named.Named.{Named}
use Rattle.narrowing.specs.declared.named.Named.TheVariants.{Edge, High, Pulse, Mark, Step as NetStep}
use Rattle.narrowing.specs.Part.{IsLate, MayBeLate, most_late}
use Rattle.window_law.specs.Window.{IsCut}
use Rattle.run_clauses.specs.declared.fact.Fact.{Fact}
use Rattle.run_clauses.specs.declared.fact.Fact.TheVariants.{Beside, Delay, Fall, First, Lasts, Net, Offset, Own, Parity, Pin, Rise, Second, Step, Wire}
use Rattle.run_clauses.specs.declared.fact.Said.{Said}
use Rattle.run_clauses.specs.Clauses.{all_hold}
use Rattle.run_clauses.specs.Forms.{differ}

-- A run, the ticks that a break of it names, and by how much each `.P` clock that nothing drives
-- comes later than at its earliest.
pub record World : Type 0 where
  pub run : Run
  pub named : Named
  pub offset : ℕ → ℕ

-- ---- what an instance does in a run

abbrev pub no_choice : Choice
no_choice = record { delay = 0; rise = 0; fall = 0; wires = [] }

abbrev pub choice_in : Option Choice → Choice
choice_in None = no_choice
choice_in (Some choice) = choice

abbrev pub choice_of : World → ℕ → Choice
choice_of w k = choice_in (slice_get w.run.choices k)

-- what the pins of an instance show, as signals; none if there is no such instance
abbrev pub signals_in : Run → Option Instance → Choice → List Signal
signals_in run None choice = []
signals_in run (Some j) choice = pin_signals run j.pins choice.wires

abbrev pub signals_of : Circuit → World → ℕ → List Signal
signals_of c w k = signals_in w.run (slice_get c.instances k) (choice_of w k)

abbrev pub pin_bit : Circuit → World → ℕ → ℕ → ℕ → Bool
pin_bit c w k pin t = nth_signal (signals_of c w k) pin t

-- the bit that the gate makes of its pins
abbrev pub own_in : Option Instance → List Bool → Bool
own_in None bits = false
own_in (Some j) bits = gate_bit j.kind bits

abbrev pub own_bit : Circuit → World → ℕ → ℕ → Bool
own_bit c w k t = own_in (slice_get c.instances k) (bits_at (signals_of c w k) t)

-- ---- the ticks of a break

abbrev pub first_named : Named → ℕ
first_named (Edge rise change) = rise
first_named (High rise fall change) = rise
first_named (Pulse start end) = start
first_named (Mark tick marked pin) = tick
first_named (NetStep tick) = tick

abbrev pub second_named : Named → ℕ
second_named (Edge rise change) = change
second_named (High rise fall change) = change
second_named (Pulse start end) = end
second_named (Mark tick marked pin) = tick
second_named (NetStep tick) = tick

abbrev pub is_beside : Named → ℕ → Bool
is_beside (Mark tick marked other) pin = other == pin
is_beside named pin = false

-- ---- whether a fact holds

abbrev pub fact_holds : Circuit → World → Fact → Bool
fact_holds c w (Lasts t) = nat_lt t w.run.ticks
fact_holds c w (Net i t) = net_signal w.run i t
fact_holds c w (Pin k pin t) = pin_bit c w k pin t
fact_holds c w (Step k pin t) = differ (pin_bit c w k pin (t - 1)) (pin_bit c w k pin t)
fact_holds c w (Own k t) = own_bit c w k t
fact_holds c w (Parity k pin t) = parity (drop pin (bits_at (signals_of c w k) t))
fact_holds c w (Delay k d) = (choice_of w k).delay == d
fact_holds c w (Rise k d) = (choice_of w k).rise == d
fact_holds c w (Fall k d) = (choice_of w k).fall == d
fact_holds c w (Wire k pin d) = slice_index_or (choice_of w k).wires pin 0 == d
fact_holds c w (Offset i by) = w.offset i == by
fact_holds c w (First t) = first_named w.named == t
fact_holds c w (Second t) = second_named w.named == t
fact_holds c w (Beside pin) = is_beside w.named pin

-- ---- the worlds of which clauses are to be true

-- The run is cut where its break ends, as windows have it, and each clock comes so much later than
-- at its earliest as is said.
pub record IsWorld (c : Circuit) (values : List CaseValue) (x : Constraint) (printed : ℕ)
    (w : World) : Type 0 where
  pub cut : IsCut c values x printed w.run w.named
  pub late : (i : ℕ) (clock : ClockSpec) → MayBeLate c i clock →
      IsLate c.header clock w.run.ticks (net_signal w.run i) (w.offset i)
  pub few : (i : ℕ) (clock : ClockSpec) → MayBeLate c i clock →
      w.offset i ≤ most_late c.header clock

-- In every such world all clauses hold that were added, if those before them did.
abbrev pub StayTrue : Circuit → List CaseValue → Constraint → ℕ → List (List Said) →
    List (List Said) → Type 0
StayTrue c values x printed old new =
    (w : World) → IsWorld c values x printed w → all_hold (fact_holds c w) old ≡ true →
    all_hold (fact_holds c w) new ≡ true

-- the same, whatever the case
abbrev pub StaysAt : Circuit → Constraint → ℕ → List (List Said) → List (List Said) → Type 0
StaysAt c x printed old new = (values : List CaseValue) → StayTrue c values x printed old new

-- the same, whatever the constraint, and whatever the case too
abbrev pub StayTrueInCase : Circuit → List CaseValue → List (List Said) → List (List Said) → Type 0
StayTrueInCase c values old new =
    (x : Constraint) (printed : ℕ) → StayTrue c values x printed old new

abbrev pub StayTrueIn : Circuit → List (List Said) → List (List Said) → Type 0
StayTrueIn c old new = (values : List CaseValue) → StayTrueInCase c values old new
