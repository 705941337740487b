-- Walks back: from an event link by link to where its path ends.
use Rattle.std.specs.Prelude.{ℕ, zero, suc, ◌+◌, ◌*◌, ◌==◌, Bool, true, false, ◌&&◌, List, [], ◌∷◌, length, slice_get, if◌then◌else◌, Option, Some, None}
use Rattle.std.specs.List.{list_any}
use Rattle.std.specs.Option.{option_map}
use Rattle.scald_base.specs.Clock.{back}
use Rattle.scald_base.specs.Time.{period}
use Rattle.vector_names.specs.declared.bits.Target.{Target}
use Rattle.vector_names.specs.declared.bits.Target.TheVariants.{Net as OnNet, Constant}
use Rattle.element_kinds.specs.Kinds.{is_change}
use Rattle.flat_circuit.specs.declared.instance.Pin.{Pin}
use Rattle.flat_circuit.specs.declared.instance.Instance.{Instance}
use Rattle.flat_circuit.specs.Circuit.{Circuit, driver, wire_at}
use Rattle.gate_eval.specs.Hold.{first_some}
use Rattle.fixpoint_engine.specs.Waves.{Waves}
use Rattle.critical_paths.specs.declared.direction.Corner.{Corner}
use Rattle.critical_paths.specs.declared.direction.Corner.TheVariants.{Late, Early}
use Rattle.critical_paths.specs.declared.direction.Direction.{Direction}
use Rattle.critical_paths.specs.declared.event.Reading.{Reading}
use Rattle.critical_paths.specs.declared.event.Reading.TheVariants.{Folded, Unfolded}
use Rattle.critical_paths.specs.declared.event.Stop.{Stop}
use Rattle.critical_paths.specs.declared.path.Passage.{Passage}
use Rattle.critical_paths.specs.declared.path.Origin.{Origin}
use Rattle.critical_paths.specs.declared.path.Origin.TheVariants.{Input, Level, Earlier}
use Rattle.critical_paths.specs.Event.{Event, same_direction, turned}
use Rattle.critical_paths.specs.Path.{End, Link, Loop, Nothing, Path, Source, before, choices, event_before, inward, is_event}
use Rattle.critical_paths.specs.Unfolded.{Read, by_folds, read_before}

-- ---- stops

-- the event of a stop
abbrev pub event_at : Stop → Event
event_at s = record { net = s.net; direction = s.direction; slot = s.slot }

abbrev pub same_corner : Corner → Corner → Bool
same_corner Late Late = true
same_corner Early Early = true
same_corner a b = false

abbrev pub same_reading : Reading → Reading → Bool
same_reading Folded Folded = true
same_reading Unfolded Unfolded = true
same_reading a b = false

abbrev pub same_stop : Stop → Stop → Bool
same_stop a b =
    (a.net == b.net) && (same_direction a.direction b.direction && ((a.slot == b.slot)
    && (same_corner a.corner b.corner && same_reading a.reading b.reading)))

-- What a change function drives is read by folds.
abbrev pub reading_of : Reading → Option Instance → Reading
reading_of reading None = reading
reading_of reading (Some j) = if is_change j.kind then Folded else reading

abbrev pub stop_of : Circuit → Corner → Reading → Event → Stop
stop_of c corner reading e =
    record {
      net = e.net;
      direction = e.direction;
      slot = e.slot;
      corner = corner;
      reading = reading_of reading (driver c e.net);
    }

-- ---- where a stop comes from

abbrev pub read_at : Circuit → Waves → Stop → Instance → Reading → Option Read
read_at c ws s j Folded = option_map by_folds (before c ws s.corner (event_at s) j)
read_at c ws s j Unfolded = read_before c ws s.corner (event_at s) j

abbrev pub origin_from : Circuit → Corner → Option Read → Origin
origin_from c corner None = Level
origin_from c corner (Some r) = Earlier r.passage (stop_of c corner r.reading r.event)

abbrev pub origin_by : Circuit → Waves → Stop → Option Instance → Origin
origin_by c ws s None = Input
origin_by c ws s (Some j) = origin_from c s.corner (read_at c ws s j s.reading)

abbrev pub origin_of : Circuit → Waves → Stop → Origin
origin_of c ws s = origin_by c ws s (driver c s.net)

-- ---- paths

abbrev pub ending : Stop → End → Path
ending s end = record { links = []; last = event_at s; end = end }

abbrev pub link : Stop → Passage → Link
link s passage = record { event = event_at s; passage = passage }

abbrev pub linked : Link → Path → Path
linked link rest = record { links = link ∷ rest.links; last = rest.last; end = rest.end }

abbrev pub path_after : Stop → (Stop → Path) → Origin → Path
path_after s rest Input = ending s Source
path_after s rest Level = ending s Nothing
path_after s rest (Earlier passage before) = linked (link s passage) (rest before)

-- From a stop on, if these were passed and at most so many more can follow.
abbrev pub path_from : Circuit → Waves → ℕ → List Stop → Stop → Path
path_from c ws zero seen s = ending s Loop
path_from c ws (suc left) seen s =
    if list_any (same_stop s) seen then ending s Loop
    else path_after s (λ before. path_from c ws left (s ∷ seen) before) (origin_of c ws s)

-- how many events there are, one for each net, slot and direction, and how many stops: each is read
-- in two ways
abbrev pub event_count : Circuit → ℕ
event_count c = 3 * (period c.header * length c.nets)

abbrev pub stop_count : Circuit → ℕ
stop_count c = 6 * (period c.header * length c.nets)

unfoldable pub path_of_stop : Circuit → Waves → Stop → Path
path_of_stop c ws s = path_from c ws (stop_count c + 1) [] s

-- the path back from an event: late from a last slot by the greatest delays, or early from a first
-- slot by the least
abbrev pub path_of : Circuit → Waves → Corner → Event → Path
path_of c ws corner e = path_of_stop c ws (stop_of c corner Folded e)

-- that of an end of a pulse, as waves are without their skew: the begin late, and the end early
abbrev pub end_path_of : Circuit → Waves → Corner → Event → Path
end_path_of c ws corner e = path_of_stop c ws (stop_of c corner Unfolded e)

-- ---- from a pin

-- a path back from a pin, and the delay of the wire to it
pub record PinPath : Type 0 where
  pub wire : ℕ
  pub path : Path

abbrev pub pin_path_at : Circuit → Waves → Corner → ℕ → Direction → ℕ → ℕ → Option PinPath
pin_path_at c ws corner p d i n =
    if is_event c ws (event_before corner (period c.header) p (wire_at c.nets i) d i n)
    then Some (record {
      wire = inward corner (wire_at c.nets i) n;
      path = path_of c ws corner (event_before corner (period c.header) p (wire_at c.nets i) d i n);
    })
    else None

abbrev pub pin_path_on : Circuit → Waves → Corner → ℕ → Direction → Bool → Target → Option PinPath
pin_path_on c ws corner p d inverted (OnNet i) =
    first_some (pin_path_at c ws corner p (turned inverted d) i) (choices (wire_at c.nets i)) 0
pin_path_on c ws corner p d inverted (Constant b) = None

abbrev pub pin_path_of : Circuit → Waves → Corner → ℕ → Direction → Option Pin → Option PinPath
pin_path_of c ws corner p d None = None
pin_path_of c ws corner p d (Some pin) = pin_path_on c ws corner p d pin.inverted pin.target

-- the path back from a step of this direction that a pin of an instance shows in a slot
abbrev pub pin_path : Circuit → Waves → Corner → Instance → ℕ → Direction → ℕ → Option PinPath
pin_path c ws corner j i d p = pin_path_of c ws corner p d (slice_get j.pins i)

-- ---- from a pin, for a width

abbrev pub end_path_on : Circuit → Waves → Corner → ℕ → Direction → Bool → Target → Option PinPath
end_path_on c ws corner p d inverted (OnNet i) =
    Some (record {
      wire = (wire_at c.nets i).min;
      path = end_path_of c ws corner (record {
        net = i;
        direction = turned inverted d;
        slot = back (period c.header) p (wire_at c.nets i).min;
      });
    })
end_path_on c ws corner p d inverted (Constant b) = None

-- the path of an end of a pulse that a pin has in a slot
abbrev pub end_pin_path : Circuit → Waves → Corner → Direction → ℕ → Pin → Option PinPath
end_pin_path c ws corner d p pin = end_path_on c ws corner p d pin.inverted pin.target
