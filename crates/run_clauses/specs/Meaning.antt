-- What clauses say of the bits of facts, form by form. Nothing here speaks of circuits or of runs:
-- `specs/World` says which bits the facts of a run have, and of those all of this is true.
use Rattle.std.specs.Prelude.{◌≡◌, ◌≢◌, ℕ, ◌+◌, ◌-◌, ◌/◌, ◌%◌, ◌^◌, ◌<◌, ◌≤◌, ◌==◌, Bool, true, false, not, nat_lt, ◌&&◌, if◌then◌else◌, List, [], min, max, slice_get, Some}
use Rattle.scald_base.specs.Clock.{back, ideal}
use Rattle.scald_base.specs.Fitting.{skew_of}
use Rattle.scald_base.specs.Quiet.{quiet}
use Rattle.scald_base.specs.Signal.{turned}
use Rattle.scald_base.specs.Time.{Bounds, Header, period}
use Rattle.scald_base.specs.declared.assertion.AssertSpec.{AssertSpec}
use Rattle.scald_base.specs.declared.assertion.ClockSpec.{ClockSpec}
use Rattle.scald_base.specs.declared.assertion.Span.{Span}
use Rattle.step_values.specs.declared.value.Value.{Value}
use Rattle.step_values.specs.Steps.{has}
use Rattle.element_kinds.specs.Equation.{IsForced, IsInReach}
use Rattle.flat_circuit.specs.declared.case.CaseValue.{CaseValue}
use Rattle.point_check.specs.Break.{wide_at}
use Rattle.run_clauses.specs.declared.breaks.Stretch.{Stretch}
use Rattle.run_clauses.specs.declared.driven.Driven.{Driven}
use Rattle.run_clauses.specs.declared.fact.Fact.{Fact}
use Rattle.run_clauses.specs.declared.fact.Fact.TheVariants.{Beside, Delay, Fall, First, Lasts, Net, Offset, Own, Parity, Pin, Rise, Second, Step, Wire}
use Rattle.run_clauses.specs.declared.fact.Said.{Said}
use Rattle.run_clauses.specs.declared.gates.Gate.{Gate}
use Rattle.run_clauses.specs.declared.pins.At.{At}
use Rattle.run_clauses.specs.declared.storage.Storage.{Storage}
use Rattle.run_clauses.specs.declared.undriven.Input.{Input}
use Rattle.run_clauses.specs.Clauses.{all_hold, clause_holds, said_holds}
use Rattle.run_clauses.specs.Forms.{differ, forced_said}

abbrev pub Bits : Type 0
Bits = Fact → Bool

-- Where the bits are such, all clauses hold that were added, if those before them did.
abbrev pub Adds : (Bits → Type 0) → List (List Said) → List (List Said) → Type 0
Adds Such old new =
    (bits : Bits) → Such bits → all_hold bits old ≡ true → all_hold bits new ≡ true

-- Where a clause does not hold at whose end something was put, it did not before, and such is so.
abbrev pub Puts : (Bits → Type 0) → List Said → List Said → Type 0
Puts Such old new =
    (bits : Bits) → clause_holds bits new ≡ false → (clause_holds bits old ≡ false) × Such bits

-- one of two, and not both
abbrev pub IsOther : Fact → Fact → Fact → Bits → Type 0
IsOther bit one two bits = bits bit ≡ differ (bits one) (bits two)

-- unless one of two things is so, two others are the same
abbrev pub AreSame : Said → Said → Said → Said → Bits → Type 0
AreSame one two a b bits =
    said_holds bits one ≡ false → said_holds bits two ≡ false →
    said_holds bits a ≡ said_holds bits b

-- ---- the ticks of a run

abbrev pub HasBefore : ℕ → Bits → Type 0
HasBefore tick bits = bits (Lasts tick) ≡ true → bits (Lasts (tick - 1)) ≡ true

-- ---- what pins show

-- the pin steps if it shows another bit than a tick before
abbrev pub IsStep : At → Bits → Type 0
IsStep at =
    IsOther (Step at.instance at.pin at.tick) (Pin at.instance at.pin (at.tick - 1))
    (Pin at.instance at.pin at.tick)

-- the pin shows its net, a wire's delay before
abbrev pub ShowsNet : At → ℕ → Bool → Bits → Type 0
ShowsNet at net inverted bits =
    (ticks : ℕ) → bits (Wire at.instance at.pin ticks) ≡ true →
    bits (Pin at.instance at.pin at.tick) ≡ turned inverted (bits (Net net (at.tick - ticks)))

-- ---- what gates make of their pins

abbrev pub own_of : Gate → Bits → Bool
own_of g bits = bits (Own g.instance g.tick)

abbrev pub pin_of : Gate → Bits → ℕ → Bool
pin_of g bits pin = bits (Pin g.instance pin g.tick)

abbrev pub parity_of : Gate → Bits → ℕ → Bool
parity_of g bits pin = bits (Parity g.instance pin g.tick)

abbrev pub IsBuffer : Gate → Bits → Type 0
IsBuffer g bits = own_of g bits ≡ pin_of g bits 0

-- the gate has the bit exactly if all its pins have it
pub record IsAll (g : Gate) (bit : Bool) (bits : Bits) : Type 0 where
  pub each : (pin : ℕ) → pin < g.pins → own_of g bits ≡ bit → pin_of g bits pin ≡ bit
  pub all : ((pin : ℕ) → pin < g.pins → pin_of g bits pin ≡ bit) → own_of g bits ≡ bit

pub record IsParity (g : Gate) (bits : Bits) : Type 0 where
  pub next : (pin : ℕ) → pin < g.pins →
      parity_of g bits pin ≡ differ (pin_of g bits pin) (parity_of g bits (pin + 1))
  pub last : parity_of g bits g.pins ≡ false
  pub own : own_of g bits ≡ parity_of g bits 0

-- whether the select has a 1 in the number that the selects write, the first the most significant
abbrev pub selects_one : ℕ → ℕ → ℕ → Bool
selects_one selects number select = (number / 2 ^ (selects - 1 - select)) % 2 == 1

-- if the selects have the bits of the number, the gate's bit is that of the input with this number
abbrev pub IsSelected : Gate → ℕ → ℕ → Bits → Type 0
IsSelected g selects number bits =
    ((select : ℕ) → select < selects → pin_of g bits select ≡ selects_one selects number select) →
    own_of g bits ≡ pin_of g bits (selects + number)

abbrev pub IsChoice : Gate → ℕ → Bits → Type 0
IsChoice g selects bits =
    selects ≤ g.pins → (number : ℕ) → number < 2 ^ selects → IsSelected g selects number bits

-- ---- what drivers give

-- the output before it is complemented, and what it was a tick before
abbrev pub out_of : Driven → Bits → Bool
out_of d bits = turned d.inverted (bits (Net d.net d.tick))

abbrev pub old_of : Driven → Bits → Bool
old_of d bits = turned d.inverted (bits (Net d.net (d.tick - 1)))

abbrev pub HasTick : Driven → Bits → Type 0
HasTick d bits = bits (Lasts d.tick) ≡ true

-- for each delay, what the gate makes of its pins so long before
abbrev pub IsGate : Driven → Bits → Type 0
IsGate d bits =
    HasTick d bits → (ticks : ℕ) → bits (Delay d.instance ticks) ≡ true →
    out_of d bits ≡ bits (Own d.instance (d.tick - ticks))

-- The output has a bit if the gate makes it at some tick that the bounds reach, and has the other
-- if the gate makes that one at each of them.
pub record IsBetween (d : Driven) (bit : Bool) (bounds : Bounds) (bits : Bits) : Type 0 where
  pub some : (u : ℕ) → IsInReach bounds d.tick u → bits (Own d.instance u) ≡ bit →
      out_of d bits ≡ bit
  pub each : ((u : ℕ) → IsInReach bounds d.tick u → bits (Own d.instance u) ≡ not bit) →
      out_of d bits ≡ not bit

-- one pair of a rise and a fall delay, and each: the slower step is that of the longer delay
abbrev pub IsPair : Driven → ℕ → ℕ → Bits → Type 0
IsPair d rise fall bits =
    HasTick d bits → bits (Rise d.instance rise) ≡ true → bits (Fall d.instance fall) ≡ true →
    IsBetween d (nat_lt rise fall) (record { min = min rise fall; max = max rise fall }) bits

abbrev pub IsSplitGate : Driven → Bits → Type 0
IsSplitGate d bits =
    (rise fall : ℕ) → rise ≤ d.tick → fall ≤ d.tick → IsPair d rise fall bits

-- no pin steps at the tick, or within reach
abbrev pub NoneStepsAt : Driven → ℕ → ℕ → Bits → Type 0
NoneStepsAt d pins u bits = (pin : ℕ) → pin < pins → bits (Step d.instance pin u) ≡ false

abbrev pub NoneSteps : Driven → ℕ → Bounds → Bits → Type 0
NoneSteps d pins delay bits = (u : ℕ) → IsInReach delay d.tick u → NoneStepsAt d pins u bits

-- the output stays if no pin steps within reach
abbrev pub IsChange : Driven → ℕ → Bounds → Bits → Type 0
IsChange d pins delay bits =
    HasTick d bits → NoneSteps d pins delay bits → old_of d bits ≡ out_of d bits

-- ---- storage

abbrev pub shows : Storage → Bits → ℕ → ℕ → Bool
shows s bits pin tick = bits (Pin s.net.instance pin tick)

-- what a set and a reset make of a bit, if there are any
abbrev pub IsStoredBit : Bool → Bool → Bool → Bool → Bool → Type 0
IsStoredBit false set reset free output = output ≡ free
IsStoredBit true set reset free output = IsForced set reset free output

abbrev pub Stores : Storage → Bool → Bits → Type 0
Stores s free bits =
    HasTick s.net bits → said_holds bits s.unless ≡ false →
    IsStoredBit s.forced (shows s bits 2 s.tick) (shows s bits 3 s.tick) free (out_of s.net bits)

-- nothing sets or resets the output
pub record IsFree (s : Storage) (bits : Bits) : Type 0 where
  pub lasts : HasTick s.net bits
  pub delay : said_holds bits s.unless ≡ false
  pub not_set : said_holds bits (forced_said s 2) ≡ false
  pub not_reset : said_holds bits (forced_said s 3) ≡ false

-- so it is the input, or stays, unless something is so
abbrev pub IsTaken : Storage → Said → Said → Bits → Type 0
IsTaken s one two bits =
    IsFree s bits → said_holds bits one ≡ false → said_holds bits two ≡ false →
    out_of s.net bits ≡ shows s bits 1 s.tick

abbrev pub IsKept : Storage → Said → Bits → Type 0
IsKept s one bits =
    IsFree s bits → said_holds bits one ≡ false → out_of s.net bits ≡ old_of s.net bits

-- a set alone gives 1, and a reset alone 0
abbrev pub IsSetOrReset : Storage → Bits → Type 0
IsSetOrReset s bits =
    s.forced ≡ true → HasTick s.net bits → said_holds bits s.unless ≡ false →
    IsForced (shows s bits 2 s.tick) (shows s bits 3 s.tick) (out_of s.net bits) (out_of s.net bits)

abbrev pub IsRegister : Storage → Bits → Type 0
IsRegister s bits =
    Stores s
    (if not (shows s bits 0 (s.tick - 1)) && shows s bits 0 s.tick
    then shows s bits 1 s.tick
    else old_of s.net bits) bits

abbrev pub IsLatch : Storage → Bits → Type 0
IsLatch s bits =
    Stores s (if shows s bits 0 s.tick then shows s bits 1 s.tick else old_of s.net bits) bits

abbrev pub with_delay : Driven → Bool → ℕ → Storage
with_delay d forced ticks = record {
  net = d;
  unless = record { fact = Delay d.instance ticks; holds = false };
  tick = d.tick - ticks;
  forced = forced;
}

abbrev pub IsStoredBy : Bool → Storage → Bits → Type 0
IsStoredBy true s bits = IsLatch s bits
IsStoredBy false s bits = IsRegister s bits

abbrev pub IsStorage : Driven → Bool → Bool → Bits → Type 0
IsStorage d forced is_latch bits = (ticks : ℕ) →
    IsStoredBy is_latch (with_delay d forced ticks) bits

-- ---- nets that nothing drives

abbrev pub IsSameAt : Input → ℕ → Bits → Type 0
IsSameAt i tick bits =
    bits (Lasts i.tick) ≡ true → bits (Net i.net i.tick) ≡ bits (Net i.net tick)

-- in a quiet slot as a tick before
abbrev pub IsStable : Input → Header → List Span → Bits → Type 0
IsStable i h spans bits =
    1 ≤ i.tick → quiet spans h (back (period h) i.tick 0) ≡ true → IsSameAt i (i.tick - 1) bits

-- and without intervals as at tick 0
pub record Stays (i : Input) (h : Header) (spans : List Span) (bits : Bits) : Type 0 where
  pub still : IsStable i h spans bits
  pub always : spans ≡ [] → IsSameAt i 0 bits

-- the ideal clock, later than at its earliest by its offset
abbrev pub IsClock : Input → Header → ClockSpec → Bits → Type 0
IsClock i h clock bits =
    bits (Lasts i.tick) ≡ true → (by : ℕ) → bits (Offset i.net by) ≡ true →
    bits (Net i.net i.tick)
    ≡ ideal clock h (back (period h) (i.tick + (skew_of clock h.pskew).0) by)

-- ---- breaks

-- one fact has a bit, if another holds, and if two others do
abbrev pub Implies : Fact → Fact → Bool → Bits → Type 0
Implies fact other bit bits = bits fact ≡ true → bits other ≡ bit

abbrev pub ImpliesBoth : Fact → Fact → Fact → Bits → Type 0
ImpliesBoth one two other bits = bits one ≡ true → bits two ≡ true → bits other ≡ true

-- what a pin shows, and what it did a tick before
abbrev pub shown_at : At → Fact
shown_at at = Pin at.instance at.pin at.tick

abbrev pub shown_before : At → Fact
shown_before at = Pin at.instance at.pin (at.tick - 1)

-- the pin does not stay at the bit, if the fact holds
abbrev pub LeavesIf : Fact → At → Bool → Bits → Type 0
LeavesIf fact at bit bits =
    bits fact ≡ true → ¬ ((bits (shown_before at) ≡ bit) × (bits (shown_at at) ≡ bit))

-- some tick of the stretch is the break's first, and the run has it
pub record IsFirstIn (stretch : Stretch) (bits : Bits) : Type 0 where
  pub tick : ℕ
  pub from : stretch.from ≤ tick
  pub before : tick < stretch.end
  pub is : bits (First tick) ≡ true
  pub lasts : (t : ℕ) → bits (First t) ≡ true → bits (Lasts t) ≡ true

-- if the first tick is this, some tick of the stretch is the second
pub record HasSecond (stretch : Stretch) (bits : Bits) : Type 0 where
  pub tick : ℕ
  pub from : stretch.from ≤ tick
  pub before : tick < stretch.end
  pub is : bits (Second tick) ≡ true

abbrev pub IsSecondIn : ℕ → Stretch → Bits → Type 0
IsSecondIn first stretch bits = bits (First first) ≡ true → HasSecond stretch bits

abbrev pub stretch : ℕ → ℕ → Stretch
stretch from end = record { from = from; end = end }

-- A clock rises at the first tick, and an input changes at the second, which is near to it.
pub record IsEdge (k setup hold : ℕ) (period : Stretch) (bits : Bits) : Type 0 where
  pub first : IsFirstIn (stretch period.from (period.end + setup)) bits
  pub high : (t : ℕ) → bits (First t) ≡ true → bits (Pin k 0 t) ≡ true
  pub low : (t : ℕ) → bits (First t) ≡ true → bits (Pin k 0 (t - 1)) ≡ false
  pub near : (t : ℕ) →
      IsSecondIn t (stretch (max period.from (t + 1 - setup)) (t + hold + 1)) bits
  pub lasts : (t : ℕ) → bits (Second t) ≡ true → bits (Lasts t) ≡ true
  pub changes : (t : ℕ) → bits (Second t) ≡ true → bits (Step k 1 t) ≡ true

-- A pulse at the level begins at the first tick and ends at the second, too soon.
pub record IsNarrow (k width : ℕ) (level : Bool) (period : Stretch) (bits : Bits) : Type 0 where
  pub first : IsFirstIn period bits
  pub begins : (t : ℕ) → bits (First t) ≡ true → bits (Pin k 0 t) ≡ level
  pub before : (t : ℕ) → bits (First t) ≡ true → bits (Pin k 0 (t - 1)) ≡ not level
  pub near : (t : ℕ) → IsSecondIn t (stretch (t + 1) (t + width)) bits
  pub lasts : (t : ℕ) → bits (Second t) ≡ true → bits (Lasts t) ≡ true
  pub ends : (t : ℕ) → bits (Second t) ≡ true → bits (Pin k 0 t) ≡ not level
  pub after : (t : ℕ) → bits (Second t) ≡ true → bits (Pin k 0 (t - 1)) ≡ level

-- some pin beside the marked one is that of the break
pub record HasBeside (marked pins : ℕ) (bits : Bits) : Type 0 where
  pub pin : ℕ
  pub below : pin < pins
  pub apart : pin ≢ marked
  pub is : bits (Beside pin) ≡ true

abbrev pub IsNotBeside : ℕ → ℕ → Bits → Type 0
IsNotBeside marked pin bits = pin ≢ marked → bits (Beside pin) ≡ false

-- It steps at the first tick, at which the marked one does not stay closed.
pub record IsLetThrough (k marked pins : ℕ) (closed : Bool) (period : Stretch) (bits : Bits) :
    Type 0 where
  pub first : IsFirstIn period bits
  pub beside : HasBeside marked pins bits
  pub leaves : (t : ℕ) → bits (First t) ≡ true →
      ¬ ((bits (Pin k marked (t - 1)) ≡ closed) × (bits (Pin k marked t) ≡ closed))
  pub steps : (t pin : ℕ) → bits (First t) ≡ true → bits (Beside pin) ≡ true →
      bits (Step k pin t) ≡ true

-- if the break is at the tick, the net steps there as the value does not permit
abbrev pub LacksAt : Value → ℕ → ℕ → Bits → Type 0
LacksAt value net t bits =
    bits (First t) ≡ true → has value (bits (Net net (t - 1))) (bits (Net net t)) ≡ false

-- The net steps at the first tick as the wide wave of its assertion does not permit.
pub record IsLacking (h : Header) (spec : AssertSpec) (net : ℕ) (period : Stretch) (bits : Bits) :
    Type 0 where
  pub first : IsFirstIn period bits
  pub lacks : (t : ℕ) → LacksAt (wide_at h spec t) net t bits

-- ---- what a case gives a net

pub record HasValue (values : List CaseValue) (net : ℕ) (one : Bool) : Type 0 where
  pub place : ℕ
  pub at : slice_get values place ≡ Some (record { net = net; one = one })
