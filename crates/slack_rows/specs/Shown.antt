-- Which paths a slack comes from: at which ticks they show, and which end of a region each of them
-- explains.
use Rattle.std.specs.Prelude.{◌≡◌, ℕ, slice_get, ℤ, pos, ◌+ℤ◌, Bool, true, false, List, IfSome, Option, Some, None}
use Rattle.std.specs.Option.{option_map}
use Rattle.scald_base.specs.Time.{period}
use Rattle.flat_circuit.specs.declared.instance.Instance.{Instance}
use Rattle.flat_circuit.specs.Circuit.{Circuit}
use Rattle.fixpoint_engine.specs.Waves.{Waves}
use Rattle.critical_paths.specs.declared.direction.Corner.{Corner}
use Rattle.critical_paths.specs.declared.direction.Corner.TheVariants.{Late as LateCorner, Early as EarlyCorner}
use Rattle.critical_paths.specs.declared.direction.Direction.{Direction}
use Rattle.critical_paths.specs.declared.event.Event.{Event}
use Rattle.critical_paths.specs.declared.event.PinEvent.{PinEvent}
use Rattle.critical_paths.specs.declared.event.Reading.TheVariants.{Folded}
use Rattle.critical_paths.specs.declared.path.At.{At}
use Rattle.critical_paths.specs.declared.path.Node.{Node}
use Rattle.flat_circuit.specs.declared.instance.Pin.{Pin}
use Rattle.critical_paths.specs.Event.{other_corner, turned}
use Rattle.critical_paths.specs.Known.{corner_in, path_at, path_known}
use Rattle.critical_paths.specs.Views.{event_of}
use Rattle.critical_paths.specs.Tick.{slot_of}
use Rattle.critical_paths.specs.Walk.{end_pin_path, path_of_stop, pin_path_on, stop_of}
use Rattle.slack_rows.specs.declared.held.Held.{Held}
use Rattle.slack_rows.specs.declared.parameter.Subject.{Subject}
use Rattle.slack_rows.specs.declared.parameter.Subject.TheVariants.{Instance as OfInstance, Net as OfNet}
use Rattle.slack_rows.specs.declared.parameter.Word.{Word as Limit}
use Rattle.slack_rows.specs.declared.slack.By.{By}
use Rattle.slack_rows.specs.declared.slack.By.TheVariants.{Region as ByRegion, Way as ByWay, Quiet, Pulse, Swallowed, Repeated, Nothing}
use Rattle.slack_rows.specs.declared.slack.Finding.{Finding as Found}
use Rattle.slack_rows.specs.declared.window.Window.{Window as Ticks}
use Rattle.slack_rows.specs.Views.{corner_of, is_of_width}

-- ---- at which ticks

-- the tick of the edge that data is held against
abbrev pub edge_tick : Corner → Ticks → ℤ
edge_tick LateCorner w = w.first
edge_tick EarlyCorner w = w.last

abbrev pub ShowsAt : ℤ → Option At → Type 0
ShowsAt tick None = Unit {0}
ShowsAt tick (Some at) = at.tick +ℤ pos at.wire ≡ tick

-- Of an instance: the data at its change and the clock at its edge, or the begin and the end of a
-- pulse. A net has no clock.
abbrev pub data_tick : Bool → Found → ℤ
data_tick true found = found.window.first
data_tick false found = found.tick

abbrev pub clock_tick : Bool → Corner → Found → ℤ
clock_tick true corner found = found.window.last
clock_tick false corner found = edge_tick corner found.window

abbrev pub ShowAt : Subject → Limit → Found → Option At → Option At → Type 0
ShowAt (OfInstance number) word found changes clock =
    (ShowsAt (data_tick (is_of_width word) found) changes)
    × (ShowsAt (clock_tick (is_of_width word) (corner_of word) found) clock)
ShowAt (OfNet number) word found changes clock =
    (IfSome changes (λ at. at.tick ≡ found.tick)) × (clock ≡ None)

-- ---- of which steps

-- it is the path of a step of a pin, if the waves permit one
abbrev pub IsPathOf : Circuit → Waves → List Node → PinEvent → Option At → Type 0
IsPathOf c ws nodes e found =
    option_map (path_at nodes) found
    ≡ option_map Some (pin_path_on c ws e.corner (slot_of (period c.header) e.tick) e.direction
    e.pin.inverted e.pin.target)

-- the same of the end of a pulse
abbrev pub IsEndPathOf : Circuit → Waves → List Node → PinEvent → Option At → Type 0
IsEndPathOf c ws nodes e found =
    option_map (path_at nodes) found
    ≡ option_map Some (end_pin_path c ws e.corner e.direction (slot_of (period c.header) e.tick)
    e.pin)

-- it is the path of an event of a net
abbrev pub IsPathOfNet : Circuit → Waves → List Node → Event → At → Type 0
IsPathOfNet c ws nodes e at =
    path_known nodes at.node
    ≡ Some (path_of_stop c ws (stop_of c e.corner e.reading (event_of (period c.header) e)))

-- the change of a net
abbrev pub net_change : ℕ → Corner → Found → Event
net_change net corner found =
    record {
      net = net;
      direction = found.direction;
      tick = found.tick;
      corner = corner;
      reading = Folded;
    }

-- the step with which a pulse ends
abbrev pub pulse_end : Pin → Found → PinEvent
pulse_end pin found =
    record {
      pin = pin;
      direction = turned true found.direction;
      tick = found.window.last;
      corner = EarlyCorner;
    }

-- the change of the data
abbrev pub change_finding : Held → Corner → Found → PinEvent
change_finding held corner found =
    record { pin = held.pin; direction = found.direction; tick = found.tick; corner = corner }

-- a pin of an instance is held against the steps of another one
pub record IsHeldAt (j : Instance) (pin clock : ℕ) (opens : Direction) (held : Held) :
    Type 0 where
  pub own : slice_get j.pins pin ≡ Some held.pin
  pub against : slice_get j.pins clock ≡ Some held.clock
  pub step : held.opens ≡ opens

-- ---- which end they explain

abbrev pub Explains : List Node → Corner → Option At → Type 0
Explains nodes corner None = Unit {0}
Explains nodes corner (Some at) = corner_in nodes at ≡ Some corner

-- A pulse begins late and ends early. A clock is at the other corner than the data.
abbrev pub ExplainEnds : Bool → Corner → List Node → Option At → Option At → Type 0
ExplainEnds true corner nodes begin end =
    Explains nodes LateCorner begin × Explains nodes EarlyCorner end
ExplainEnds false corner nodes changes clock = Explains nodes (other_corner corner) clock

abbrev pub ExplainAt : Subject → Limit → List Node → Option At → Option At → Type 0
ExplainAt (OfInstance number) word nodes changes clock =
    ExplainEnds (is_of_width word) (corner_of word) nodes changes clock
ExplainAt (OfNet number) word nodes changes clock = Explains nodes (corner_of word) changes

-- ---- which slacks have paths

-- that of a way is no path of a change
abbrev pub is_by_way : By → Bool
is_by_way (ByRegion region) = false
is_by_way (ByWay node) = true
is_by_way Pulse = false
is_by_way Swallowed = false
is_by_way Quiet = false
is_by_way Repeated = false
is_by_way Nothing = false

abbrev pub is_by_paths : By → Bool
is_by_paths (ByRegion region) = true
is_by_paths (ByWay node) = true
is_by_paths Pulse = true
is_by_paths Swallowed = true
is_by_paths Quiet = false
is_by_paths Repeated = false
is_by_paths Nothing = false
