-- The bits of nets that nothing drives, by what was drawn of them.
use Rattle.std.specs.Prelude.{◌≡◌, ℕ, zero, suc, ◌+◌, ◌<◌, Bool, true, false, not, ◌&&◌, ◌||◌, List, [], length, map, slice_get, slice_index_or, is_some, Option, Some, None, if◌then◌else◌}
use Rattle.std.specs.List.{list_any, range_with_len}
use Rattle.scald_base.specs.Time.{Header, period}
use Rattle.scald_base.specs.Signal.{Signal}
use Rattle.scald_base.specs.Clock.{ideal, back}
use Rattle.scald_base.specs.Quiet.{quiet}
use Rattle.scald_base.specs.Fitting.{skew_of}
use Rattle.scald_base.specs.declared.assertion.Span.{Span}
use Rattle.scald_base.specs.declared.assertion.ClockSpec.{ClockSpec}
use Rattle.scald_base.specs.declared.assertion.AssertSpec.{AssertSpec}
use Rattle.scald_base.specs.declared.assertion.AssertSpec.TheVariants.{None as Unasserted, Precision, Clock, Stable}
use Rattle.flat_circuit.specs.declared.case.CaseValue.{CaseValue}
use Rattle.flat_circuit.specs.declared.net.Net.{Net}
use Rattle.flat_circuit.specs.Name.{net_at}
use Rattle.flat_circuit.specs.Circuit.{Circuit}
use Rattle.flat_circuit.specs.Alike.{value_in}
use Rattle.trace_sim.specs.declared.choice.Choice.{Choice}
use Rattle.trace_sim.specs.Choice.{Bits}
use Rattle.trace_sim.specs.Draw.{seeded}
use Rattle.trace_sim.specs.Drawn.{delays_of, draw_run, wires_of}

-- ---- by an assertion

-- the slot of a tick
abbrev pub slot_of : Header → ℕ → ℕ
slot_of h t = back (period h) t 0

-- free, but in quiet slots as it was a tick before
abbrev pub held : Header → List Span → Signal → Signal
held h spans free zero = free 0
held h spans free (suc t) =
    if quiet spans h (slot_of h (suc t)) then held h spans free t else free (suc t)

-- the ideal clock steps to this bit at a slot
abbrev pub is_edge : ClockSpec → Header → Bool → ℕ → Bool
is_edge c h true slot = not (ideal c h (back (period h) slot 1)) && ideal c h slot
is_edge c h false slot = ideal c h (back (period h) slot 1) && not (ideal c h slot)

-- the slot is in the region of an edge to this bit
abbrev pub is_near : ClockSpec → Header → ℕ × ℕ → Bool → ℕ → Bool
is_near c h skew to slot =
    list_any (λ by. is_edge c h to (back (period h) (slot + skew.0) by))
    (range_with_len 0 (skew.0 + skew.1 + 1))

-- and the last of it
abbrev pub is_last : ClockSpec → Header → ℕ × ℕ → Bool → ℕ → Bool
is_last c h skew to slot = is_edge c h to (back (period h) slot skew.1)

-- Each edge comes once in its region, at a slot that the free bits choose, or else in the last one.
-- At tick 0 nothing is known of a region but that it was entered.
abbrev pub moved : ClockSpec → Header → ℕ × ℕ → Signal → Signal
moved c h skew free zero =
    if (is_near c h skew true 0 && not (is_last c h skew true 0))
    || (is_near c h skew false 0 && not (is_last c h skew false 0))
    then free 0
    else ideal c h 0
moved c h skew free (suc t) =
    let slot = slot_of h (suc t) in
    if is_near c h skew true slot then moved c h skew free t
    || (is_last c h skew true slot || free (suc t))
    else if is_near c h skew false slot
    then moved c h skew free t && (not (is_last c h skew false slot) && free (suc t))
    else ideal c h slot

-- the ideal clock, as a whole so much later than its earliest
abbrev pub shifted : ClockSpec → Header → ℕ × ℕ → ℕ → Signal
shifted c h skew by t = ideal c h (back (period h) (t + skew.0) by)

-- What a net without an assertion does is that of `.S` without intervals: it never steps.
abbrev pub asserted : Header → AssertSpec → ℕ → Signal → Signal
asserted h Unasserted by free = held h [] free
asserted h (Precision c) by free = shifted c h (skew_of c h.pskew) by
asserted h (Clock c) by free = moved c h (skew_of c h.cskew) free
asserted h (Stable spans) by free = held h spans free

-- ---- of the nets of a circuit

-- what is given of a net: its value in the case, or else what its assertion makes of the free bits;
-- if something drives it, these themselves
abbrev pub given_in : Header → Option Bool → Option Net → ℕ → Signal → Signal
given_in h value None by free = free
given_in h (Some one) (Some net) by free = λ t. one
given_in h None (Some net) by free =
    if is_some net.driver then free else asserted h net.spec by free

-- the bits of a row
abbrev pub bits_in : List Bool → Signal
bits_in row t = slice_index_or row t false

-- of the net at a place in name order, if this was drawn of the nets
abbrev pub given_at : Circuit → List CaseValue → List ℕ → Bits → ℕ → Signal
given_at c values shifts free place =
    let net = net_at c.order place in
    given_in c.header (value_in values net) (slice_get c.nets net) (slice_index_or shifts place 0)
    (bits_in (slice_index_or free place []))

abbrev pub given_row : Circuit → List CaseValue → ℕ → List ℕ → Bits → ℕ → List Bool
given_row c values ticks shifts free place =
    map (given_at c values shifts free place) (range_with_len 0 ticks)

-- The rows are what is given of each net.
pub record AreGiven (c : Circuit) (values : List CaseValue) (ticks : ℕ) (shifts : List ℕ)
    (free rows : Bits) : Type 0 where
  pub each : length rows ≡ length c.nets
  pub are : (place : ℕ) → place < length c.order →
      slice_get rows (net_at c.order place) ≡ Some (given_row c values ticks shifts free place)

-- The choice of the run that a seed draws in a case.
pub record IsDrawn (c : Circuit) (values : List CaseValue) (ticks seed : ℕ)
    (choice : Choice) : Type 0 where
  pub delays : choice.delays ≡ map delays_of (draw_run c ticks (seeded seed)).0.picks
  pub wires : choice.wires ≡ map wires_of (draw_run c ticks (seeded seed)).0.picks
  pub inputs : let drawn = (draw_run c ticks (seeded seed)).0 in
      AreGiven c values ticks drawn.shifts drawn.free choice.inputs
  pub free : let drawn = (draw_run c ticks (seeded seed)).0 in
      AreGiven c values ticks drawn.shifts drawn.free choice.free
