-- Bits that anyone wrote, judged by what the drawing says of its inputs.
use Rattle.std.specs.Prelude.{◌≡◌, ℕ, ◌+◌, ◌-◌, ◌<◌, ◌≤◌, Bool, true, false, not, if◌then◌else◌, List, length, slice_get, slice_index_or, Some, None}
use Rattle.scald_base.specs.Time.{Header, period}
use Rattle.scald_base.specs.Clock.{ideal, back}
use Rattle.scald_base.specs.Fitting.{skew_of}
use Rattle.scald_base.specs.Signal.{Signal}
use Rattle.scald_base.specs.declared.assertion.ClockSpec.{ClockSpec}
use Rattle.flat_circuit.specs.declared.net.Net.{Net}
use Rattle.flat_circuit.specs.Name.{net_at}
use Rattle.flat_circuit.specs.Circuit.{Circuit}
use Rattle.flat_circuit.specs.Run.{Run, net_signal}
use Rattle.pin_waves.specs.Meets.{Meets, NearEdge}

-- Nothing drives the net at a place in name order, and it does not keep its assertion.
pub record Strays (c : Circuit) (run : Run) (place : ℕ) : Type 0 where
  pub net : Net
  pub inside : place < length c.order
  pub net_is : slice_get c.nets (net_at c.order place) ≡ Some net
  pub undriven : net.driver ≡ None
  pub strays : Meets c.header net.spec run.ticks (net_signal run (net_at c.order place)) → ⊥

-- the first such net in name order
pub record StraysFirst (c : Circuit) (run : Run) (place : ℕ) : Type 0 where
  pub at : Strays c run place
  pub no_other : (other : ℕ) → other < place → Strays c run other → ⊥

-- The net at a place keeps its assertion, if nothing drives it.
abbrev pub KeepsAt : Circuit → Run → ℕ → Type 0
KeepsAt c run place =
    (net : Net) → slice_get c.nets (net_at c.order place) ≡ Some net → net.driver ≡ None →
    Meets c.header net.spec run.ticks (net_signal run (net_at c.order place))

-- ---- one tick of a clock

-- what `.C` asks of the bits on both sides of the slot of a tick
pub record KeepsClock (h : Header) (c : ClockSpec) (t : ℕ) (before now : Bool) : Type 0 where
  pub rises : NearEdge h c true t → before ≡ true → now ≡ true
  pub falls : NearEdge h c false t → before ≡ false → now ≡ false
  pub early : (NearEdge h c true t → ⊥) → (NearEdge h c false t → ⊥) →
      before ≡ ideal c h (back (period h) t 1)
  pub late : (NearEdge h c true t → ⊥) → (NearEdge h c false t → ⊥) →
      now ≡ ideal c h (back (period h) t 0)

-- near an edge to a bit the net steps from it
abbrev pub steps_from : Bool → Bool → Bool → Bool → Bool
steps_from false to before now = false
steps_from true true before now = if before then not now else false
steps_from true false before now = if before then false else now

-- the bits of a row, as a signal
abbrev pub row_signal : List Bool → Signal
row_signal row t = slice_index_or row t false

-- the bits are those of the ideal clock, so much later than its earliest
abbrev pub IsShifted : Header → ClockSpec → ℕ → List Bool → Type 0
IsShifted h c by row =
    (t : ℕ) → t < length row →
    row_signal row t ≡ ideal c h (back (period h) (t + (skew_of c h.pskew).0) by)

-- they do not change
abbrev pub IsConstant : List Bool → Type 0
IsConstant row = (t : ℕ) → 1 ≤ t → t < length row → row_signal row (t - 1) ≡ row_signal row t
