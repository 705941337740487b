-- Launches: what a path takes, and which edge of a clock it comes from.
use Rattle.std.specs.Prelude.{ℕ, ◌+◌, ◌==◌, Bool, List, [], ◌∷◌, ℤ, pos, neg_ℤ, ◌+ℤ◌, ◌-ℤ◌, slice_get, if◌then◌else◌, Option, Some, None}
use Rattle.std.specs.Option.{option_map, option_and_then}
use Rattle.scald_base.specs.declared.assertion.ClockSpec.{ClockSpec}
use Rattle.scald_base.specs.declared.assertion.AssertSpec.{AssertSpec}
use Rattle.scald_base.specs.declared.assertion.AssertSpec.TheVariants.{None as Unasserted, Precision, Clock, Stable}
use Rattle.scald_base.specs.Clock.{back, ideal}
use Rattle.scald_base.specs.Fitting.{skew_of}
use Rattle.scald_base.specs.Time.{Header, period}
use Rattle.step_values.specs.Image.{one_step}
use Rattle.flat_circuit.specs.declared.net.Net.{Net}
use Rattle.flat_circuit.specs.Circuit.{Circuit}
use Rattle.critical_paths.specs.declared.direction.Corner.{Corner}
use Rattle.critical_paths.specs.declared.direction.Corner.TheVariants.{Late, Early}
use Rattle.critical_paths.specs.declared.direction.Direction.{Direction}
use Rattle.critical_paths.specs.declared.event.Reading.{Reading}
use Rattle.critical_paths.specs.declared.event.Reading.TheVariants.{Folded, Unfolded}
use Rattle.critical_paths.specs.declared.event.Stop.{Stop}
use Rattle.critical_paths.specs.Event.{Event, moves}
use Rattle.critical_paths.specs.declared.path.Passage.{Passage}
use Rattle.critical_paths.specs.declared.path.Passage.TheVariants.{Through, Cut}
use Rattle.critical_paths.specs.Path.{Link, End, Source, Loop, Nothing, Path}
use Rattle.critical_paths.specs.Walk.{PinPath, event_at}

-- ---- sums

-- What a link takes: its wire and its delay. An event that is cut off takes what it comes after its
-- cutter.
abbrev pub ticks_of : Passage → ℤ
ticks_of (Through pin wire delay word) = pos (wire + delay)
ticks_of (Cut after) = after

abbrev pub taken : List Link → ℤ
taken [] = pos 0
taken (link ∷ links) = ticks_of link.passage +ℤ taken links

-- the tick of a path's last event, if its first is at this one
abbrev pub source_tick : ℤ → Path → ℤ
source_tick tick path = tick -ℤ taken path.links

-- ---- ideal edges

-- a late step comes so long after its edge, and an early one before it
abbrev pub offset : Corner → ℕ → ℕ → ℤ
offset Late early late = pos late
offset Early early late = neg_ℤ (pos early)

abbrev pub edge_slot : ℕ → Corner → ℕ → ℕ → ℕ → ℕ
edge_slot p Late early late slot = back p slot late
edge_slot p Early early late slot = back p (slot + early) 0

-- the ideal clock makes a step of the direction in the slot
abbrev pub is_edge : Header → ClockSpec → Direction → ℕ → Bool
is_edge h c d slot = moves d (one_step (ideal c h (back (period h) slot 1)) (ideal c h slot))

-- of a clock whose edges come so early or late as this, or as its name says
abbrev pub offset_if_edge : Header → Corner → Direction → ℕ → ClockSpec → ℕ × ℕ → Option ℤ
offset_if_edge h corner d slot c skew =
    if is_edge h c d (edge_slot (period h) corner (skew_of c skew).0 (skew_of c skew).1 slot)
    then Some (offset corner (skew_of c skew).0 (skew_of c skew).1)
    else None

abbrev pub offset_by : Header → Corner → Event → AssertSpec → Option ℤ
offset_by h corner e Unasserted = None
offset_by h corner e (Precision c) = offset_if_edge h corner e.direction e.slot c h.pskew
offset_by h corner e (Clock c) = offset_if_edge h corner e.direction e.slot c h.cskew
offset_by h corner e (Stable spans) = None

abbrev pub offset_in : Header → Corner → Event → Option Net → Option ℤ
offset_in h corner e None = None
offset_in h corner e (Some net) = offset_by h corner e net.spec

-- how long after its ideal edge a step of a clock comes, if there is such an edge
abbrev pub offset_of : Circuit → Corner → Event → Option ℤ
offset_of c corner e = offset_in c.header corner e (slice_get c.nets e.net)

-- A clock that moves as a whole is as early as it may be at both ends of a pulse.
abbrev pub corner_by : Reading → Corner → AssertSpec → Corner
corner_by Folded corner spec = corner
corner_by Unfolded corner Unasserted = corner
corner_by Unfolded corner (Precision c) = Early
corner_by Unfolded corner (Clock c) = corner
corner_by Unfolded corner (Stable spans) = corner

abbrev pub offset_read : Header → Stop → Option Net → Option ℤ
offset_read h s None = None
offset_read h s (Some net) = offset_by h (corner_by s.reading s.corner net.spec) (event_at s)
    net.spec

-- the same of an event as a path reads it
abbrev pub offset_at : Circuit → Stop → Option ℤ
offset_at c s = offset_read c.header s (slice_get c.nets s.net)

-- ---- launches

-- an ideal edge of a clock net, at a tick
pub record Edge : Type 0 where
  pub net : ℕ
  pub tick : ℤ

abbrev pub edge_by : Circuit → Corner → ℤ → Path → End → Option Edge
edge_by c corner tick path Source =
    option_map (λ after. record { net = path.last.net; tick = source_tick tick path -ℤ after })
    (offset_of c corner path.last)
edge_by c corner tick path Loop = None
edge_by c corner tick path Nothing = None

-- the edge that a path comes from whose first event is at this tick
abbrev pub edge_of : Circuit → Corner → ℤ → Path → Option Edge
edge_of c corner tick path = edge_by c corner tick path path.end

-- the same of a path from a pin that shows the event at this tick
abbrev pub edge_of_pin : Circuit → Corner → ℕ → Option PinPath → Option Edge
edge_of_pin c corner tick None = None
edge_of_pin c corner tick (Some found) = edge_of c corner (pos tick -ℤ pos found.wire) found.path

-- By how many ticks the data's edge comes before the clock's, if both are of one net: more than
-- 0 if it is an earlier edge, and 0 if it is the clock's own.
abbrev pub ago_of : Edge → Edge → Option ℤ
ago_of data_edge clock_edge =
    if data_edge.net == clock_edge.net then Some (clock_edge.tick -ℤ data_edge.tick) else None

abbrev pub ago : Option Edge → Option Edge → Option ℤ
ago None clock_edge = None
ago (Some data_edge) clock_edge = option_and_then (ago_of data_edge) clock_edge
