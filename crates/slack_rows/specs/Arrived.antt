-- Arrivals as the program has them: which of two launches count, which is further, and which edge a
-- launch is for.
use Rattle.std.specs.Prelude.{◌≡◌, ℕ, ◌==◌, List, length, fold, Bool, true, false, not, ◌&&◌, ℤ, pos, ◌+ℤ◌, ◌-ℤ◌, int_le, int_lt, if◌then◌else◌, is_some, slice_get, unwrap_or, Option, Some, None}
use Rattle.std.specs.Int.{int_rem_euclid}
use Rattle.std.specs.List.{list_any}
use Rattle.std.specs.Option.{option_and_then, option_map}
use Rattle.scald_base.specs.Time.{period}
use Rattle.vector_names.specs.declared.bits.Target.{Target}
use Rattle.vector_names.specs.declared.bits.Target.TheVariants.{Net as OnNet, Constant}
use Rattle.flat_circuit.specs.Circuit.{Circuit}
use Rattle.fixpoint_engine.specs.Waves.{target_wire}
use Rattle.critical_paths.specs.declared.arrival.Arrival.{Arrival as Arrived}
use Rattle.critical_paths.specs.declared.arrival.Known.{Known}
use Rattle.critical_paths.specs.declared.arrival.Place.{Place}
use Rattle.critical_paths.specs.declared.near.Near.{Near}
use Rattle.critical_paths.specs.declared.direction.Corner.{Corner}
use Rattle.critical_paths.specs.declared.direction.Direction.TheVariants.{Change}
use Rattle.critical_paths.specs.declared.direction.Corner.TheVariants.{Late as LateCorner, Early as EarlyCorner}
use Rattle.critical_paths.specs.declared.region.Region.{Region as Ticked}
use Rattle.critical_paths.specs.Path.{bound}
use Rattle.critical_paths.specs.Reached.{arrivals_in, known_of, range_of}
use Rattle.critical_paths.specs.Tick.{is_further}
use Rattle.slack_rows.specs.declared.guard.Guard.{Guard}
use Rattle.slack_rows.specs.declared.held.Held.{Held}
use Rattle.slack_rows.specs.declared.slack.By.TheVariants.{Way as ByWay}
use Rattle.slack_rows.specs.declared.slack.Slack.{Slack as Number}
use Rattle.slack_rows.specs.declared.slack.Reason.TheVariants.{Data, DataLoop}
use Rattle.slack_rows.specs.declared.slack.Slack.TheVariants.{Ticks as NumberOfTicks, Way as NumberOfWay}
use Rattle.slack_rows.specs.declared.slack.Slacks.{Slacks}
use Rattle.slack_rows.specs.declared.slack.Finding.{Finding as Found}
use Rattle.slack_rows.specs.declared.ways.Least.{Least}
use Rattle.slack_rows.specs.declared.ways.Sought.{Sought}
use Rattle.slack_rows.specs.declared.window.Window.{Window as Ticks}
use Rattle.slack_rows.specs.Views.{lesser_found, spare_at, finding_none}
use Rattle.slack_rows.specs.Way.{since_last, until_next}

-- ---- what is known of arrivals at a pin

-- the changes of the net at it, by the edges of a clock
abbrev pub place_on : ℕ → Corner → Target → Option Place
place_on clock corner (OnNet net) =
    Some (record { clock = clock; net = net; direction = Change; corner = corner })
place_on clock corner (Constant bit) = None

-- the arrivals there are worked out
abbrev pub AreWorkedOut : List (Place × Known) → Option Place → Type 0
AreWorkedOut entries None = Unit {0}
AreWorkedOut entries (Some place) = is_some (known_of entries place) ≡ true

abbrev pub range_on : List (Place × Known) → ℕ → Option Place → Option (ℕ × ℕ)
range_on entries count place = option_and_then (range_of entries count) place

abbrev pub arrivals_on : List (Place × Known) → List Near → Option Place → Option (List Arrived)
arrivals_on entries all place = option_map (arrivals_in all) (range_on entries (length all) place)

-- ---- two launches

-- what is launched before an edge counts late, and what is not counts early
abbrev pub counts_launch : Corner → Bool → Bool
counts_launch LateCorner is_before = is_before
counts_launch EarlyCorner is_before = not is_before

-- the first tick from one on that is whole periods of p from another one
abbrev pub first_tick : ℕ → ℤ → ℤ → ℤ
first_tick p from tick = from +ℤ int_rem_euclid (tick -ℤ from) (pos p)

-- the tick of a region that is
abbrev pub tick_of : ℕ → Ticked → ℤ → Option ℤ
tick_of p r tick =
    if int_le (first_tick p r.first tick) r.last then Some (first_tick p r.first tick) else None

-- an arrival at another tick, whole periods from it
abbrev pub moved : Arrived → ℤ → Arrived
moved a tick = record { ideal = a.ideal; tick = tick; node = a.node }

-- at a net, after a wire
abbrev pub behind_wire : ℕ → Arrived → Arrived
behind_wire wire a = moved a (a.tick +ℤ pos wire)

-- if it is launched on the side of an edge that counts
abbrev pub moved_if : Corner → ℤ → Arrived → ℤ → Option Arrived
moved_if corner edge a tick =
    if counts_launch corner (int_lt (a.ideal +ℤ (tick -ℤ a.tick)) edge) then Some (moved a tick)
    else None

abbrev pub moved_into : ℕ → Ticked → Corner → ℤ → Arrived → Option Arrived
moved_into p r corner edge a = option_and_then (moved_if corner edge a) (tick_of p r a.tick)

-- of two arrivals the one that is further, and of equal ones the first
abbrev pub further_of : Corner → Option Arrived → Option Arrived → Option Arrived
further_of corner old None = old
further_of corner None (Some new) = Some new
further_of corner (Some old) (Some new) =
    if is_further corner new.tick old.tick then Some new else Some old

-- of arrivals at a net the one that counts in a region of a pin, after a wire
abbrev pub furthest_in : ℕ → ℕ → Ticked → Corner → ℤ → List Arrived → Option Arrived
furthest_in p wire r corner edge arrivals =
    fold (λ best a. further_of corner best (moved_into p r corner edge (behind_wire wire a))) None
    arrivals

-- of those that are known
abbrev pub launch_at : Circuit → List (Place × Known) → List Near → Held → Ticked → ℕ × ℤ →
    Corner → Option Arrived
launch_at c entries all held r edge corner =
    option_and_then
    (furthest_in (period c.header) (bound corner (target_wire c.nets held.pin.target)) r corner
    edge.1)
    (arrivals_on entries all (place_on edge.0 corner held.pin.target))

abbrev pub both_of : Option Held → Option Ticked → Option (Held × Ticked)
both_of None region = None
both_of (Some held) None = None
both_of (Some held) (Some region) = Some (held, region)

-- the slack of an arrival in a window
abbrev pub finding_by_arrival : Held → Number → Ticks → Arrived → Found
finding_by_arrival held slack w a =
    record {
      slack = slack;
      window = w;
      pin = held.place;
      direction = Change;
      tick = a.tick;
      by = ByWay a.node;
    }

-- the slacks of two launches, if one is broken
abbrev pub slacks_by_two : Held → Ticks → Arrived → Arrived → Option Slacks
slacks_by_two held w late early =
    if int_le (pos 0) (spare_at LateCorner w late.tick)
    && int_le (pos 0) (spare_at EarlyCorner w early.tick)
    then None
    else Some (record {
      level = None;
      before = Some (finding_by_arrival held
          (NumberOfTicks (spare_at LateCorner w late.tick)) w late);
      after = Some (finding_by_arrival held
          (NumberOfTicks (spare_at EarlyCorner w early.tick)) w early);
    })

-- if both arrivals are known
abbrev pub slacks_of_launches : Held → Ticks → Option Arrived → Option Arrived → Option Slacks
slacks_of_launches held w None early = None
slacks_of_launches held w (Some late) None = None
slacks_of_launches held w (Some late) (Some early) = slacks_by_two held w late early

-- against an edge of a clock, if there is one
abbrev pub two_slacks : Circuit → List (Place × Known) → List Near → Held → Ticks → Ticked →
    Option (ℕ × ℤ) → Option Slacks
two_slacks c entries all held w r None = None
two_slacks c entries all held w r (Some edge) =
    slacks_of_launches held w (launch_at c entries all held r edge LateCorner)
    (launch_at c entries all held r edge EarlyCorner)

-- the arrivals of both corners are worked out
abbrev pub TwoWorkedOut : List (Place × Known) → Held → Option (ℕ × ℤ) → Type 0
TwoWorkedOut entries held None = Unit {0}
TwoWorkedOut entries held (Some edge) =
    AreWorkedOut entries (place_on edge.0 LateCorner held.pin.target)
    × AreWorkedOut entries (place_on edge.0 EarlyCorner held.pin.target)

-- ---- ways

-- how far from a launch the edge lies that it is for: the next one, or the last one
abbrev pub distance_of : Corner → ℕ → ℤ → ℤ → ℤ
distance_of LateCorner p launch edge = until_next p launch edge
distance_of EarlyCorner p launch edge = since_last p launch edge

-- the tick of that one, and by how many ticks the edge is moved to be it
abbrev pub edge_for : Corner → ℕ → ℤ → ℤ → ℤ
edge_for LateCorner p launch edge = launch +ℤ distance_of LateCorner p launch edge
edge_for EarlyCorner p launch edge = launch -ℤ distance_of EarlyCorner p launch edge

abbrev pub moved_by : Corner → ℕ → ℤ → ℤ → ℤ
moved_by corner p launch edge = edge_for corner p launch edge -ℤ edge

-- another edge of the same clock is nearer to a launch
abbrev pub is_nearer : Corner → ℕ → ℤ → Guard → Guard → Bool
is_nearer corner p launch edge other =
    (other.net == edge.net)
    && int_lt (distance_of corner p launch other.ideal) (distance_of corner p launch edge.ideal)

abbrev pub finding_spare : Sought → Arrived → Found
finding_spare sought a =
    finding_by_arrival sought.held
    (NumberOfWay (spare_at sought.corner sought.edge.window a.tick)) sought.edge.window a

-- of one against the edge that its launch is for, in the period in which the edge is known
abbrev pub finding_way : ℕ → Sought → ℤ → Arrived → Found
finding_way p sought launch a =
    finding_spare sought (moved a (a.tick -ℤ moved_by sought.corner p launch sought.edge.ideal))

-- with that, if the edge is the one that the launch is for
abbrev pub with_way : Bool → Option Found → Found → Option Found
with_way true best finding = lesser_found best (Some finding)
with_way false best finding = best

-- with that of an arrival at a net, against an edge of some
abbrev pub with_arrival : ℕ → ℕ → List Guard → Sought → Option Found → Arrived → Option Found
with_arrival p wire edges sought best a =
    with_way (not (list_any (is_nearer sought.corner p a.ideal sought.edge) edges)) best
    (finding_way p sought a.ideal (behind_wire wire a))

-- with those of all arrivals; without them a way comes from a loop
abbrev pub with_ways : ℕ → ℕ → List Guard → Sought → Least → Option (List Arrived) → Least
with_ways p wire edges sought so_far None = record { best = so_far.best; reason = DataLoop }
with_ways p wire edges sought so_far (Some arrivals) =
    record {
      best = fold (with_arrival p wire edges sought) so_far.best arrivals;
      reason = so_far.reason;
    }

abbrev pub sought_at : Held → Corner → Guard → Sought
sought_at held corner edge = record { held = held; edge = edge; corner = corner }

-- with those of an edge, by what is known of arrivals
abbrev pub with_guard : Circuit → List (Place × Known) → List Near → List Guard → Held → Corner →
    Least → Guard → Least
with_guard c entries all edges held corner so_far edge =
    with_ways (period c.header) (bound corner (target_wire c.nets held.pin.target)) edges
    (sought_at held corner edge) so_far
    (arrivals_on entries all (place_on edge.net corner held.pin.target))

abbrev pub finding_least : Held → Least → Found
finding_least held least = unwrap_or least.best (finding_none least.reason held.place Change)

-- the least of one side over all edges
abbrev pub finding_side : Circuit → List (Place × Known) → List Near → Held → Corner → List Guard →
    Found
finding_side c entries all held corner edges =
    finding_least held (fold (with_guard c entries all edges held corner)
    (record { best = None; reason = Data }) edges)

-- the arrivals from each edge are worked out
abbrev pub GuardsWorkedOut : List (Place × Known) → Held → Corner → List Guard → Type 0
GuardsWorkedOut entries held corner edges =
    (k : ℕ) (g : Guard) → slice_get edges k ≡ Some g →
    AreWorkedOut entries (place_on g.net corner held.pin.target)
