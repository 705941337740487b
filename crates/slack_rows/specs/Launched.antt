-- Which side the launches of changes give the regions of a watch.
use Rattle.std.specs.Prelude.{ℕ, ◌+◌, ◌-◌, ◌%◌, ◌==◌, Bool, true, false, not, ◌&&◌, List, ℤ, pos, ◌+ℤ◌, ◌-ℤ◌, int_lt, int_le, if◌then◌else◌, Option, Some, None}
use Rattle.std.specs.List.{list_any}
use Rattle.scald_base.specs.Clock.{back}
use Rattle.scald_base.specs.Time.{period}
use Rattle.flat_circuit.specs.declared.instance.Instance.{Instance}
use Rattle.flat_circuit.specs.Circuit.{Circuit}
use Rattle.gate_eval.specs.Hold.{closed_bit}
use Rattle.fixpoint_engine.specs.Waves.{Waves}
use Rattle.critical_paths.specs.declared.direction.Corner.{Corner}
use Rattle.critical_paths.specs.declared.direction.Corner.TheVariants.{Late as LateCorner, Early as EarlyCorner}
use Rattle.critical_paths.specs.declared.direction.Direction.{Direction}
use Rattle.critical_paths.specs.declared.direction.Direction.TheVariants.{Rise, Fall, Change}
use Rattle.critical_paths.specs.Region.{Region, first_from, last_up_to}
use Rattle.critical_paths.specs.Walk.{pin_path}
use Rattle.critical_paths.specs.Launch.{Edge, ago, edge_of_pin}
use Rattle.critical_paths.specs.Arrival.{Arrival, pin_arrivals}
use Rattle.slack_rows.specs.Window.{Window, Side, Late, Early, Either}
use Rattle.slack_rows.specs.Slack.{Launches}
use Rattle.slack_rows.specs.Way.{last_way, first_way}

-- the edge that a step comes from which a pin shows at a tick
abbrev pub edge_at : Circuit → Waves → Corner → Instance → ℕ → Direction → ℕ → Option Edge
edge_at c ws corner j i d tick =
    edge_of_pin c corner tick (pin_path c ws corner j i d (back (period c.header) tick 0))

-- ---- one side

-- Both ends of a region were launched before the edge, or neither was.
abbrev pub side_by_ago : ℤ → ℤ → Side
side_by_ago last first =
    if int_lt (pos 0) last && int_lt (pos 0) first then Late
    else if int_le last (pos 0) && int_le first (pos 0) then Early
    else Either

abbrev pub side_by : Option ℤ → Option ℤ → Side
side_by None first = Either
side_by (Some last) None = Either
side_by (Some last) (Some first) = side_by_ago last first

-- ---- two launches

-- the first end of a region was launched before the edge, and the last was not
abbrev pub are_two : Option ℤ → Option ℤ → Bool
are_two None first = false
are_two (Some last) None = false
are_two (Some last) (Some first) = int_le last (pos 0) && int_lt (pos 0) first

-- What is launched before an edge, or not before it, arrives at a tick, whole periods after the
-- arrival that is known.
abbrev pub same_bit : Bool → Bool → Bool
same_bit a b = if a then b else not b

abbrev pub arrives : ℕ → Bool → Edge → ℕ → Arrival → Bool
arrives p before clock tick a =
    (a.source == clock.net) && ((a.tick % p == tick % p)
    && same_bit before (int_lt (a.edge +ℤ (pos tick -ℤ pos a.tick)) clock.tick))

abbrev pub last_launched : ℕ → Edge → Region → List Arrival → Option ℕ
last_launched p clock r found =
    last_up_to (λ t. list_any (arrives p true clock t) found) (r.last + 1 - r.first) r.last

abbrev pub first_launched : ℕ → Edge → Region → List Arrival → Option ℕ
first_launched p clock r found =
    first_from (λ t. list_any (arrives p false clock t) found) (r.last + 1 - r.first) r.first

abbrev pub pair_of : Option ℕ → Option ℕ → Option (ℕ × ℕ)
pair_of None first = None
pair_of (Some last) None = None
pair_of (Some last) (Some first) = Some (last, first)

abbrev pub two_by : ℕ → Region → Option Edge → Option (List Arrival) → Option (List Arrival) →
    Option (ℕ × ℕ)
two_by p r None late early = None
two_by p r (Some clock) None early = None
two_by p r (Some clock) (Some late) None = None
two_by p r (Some clock) (Some late) (Some early) =
    pair_of (last_launched p clock r late) (first_launched p clock r early)

-- ---- of a pin, against the first edge of the window

abbrev pub side_at : Circuit → Waves → Instance → ℕ → ℕ → Direction → Window → Region → Side
side_at c ws j clock i edge w r =
    side_by (ago (edge_at c ws LateCorner j i Change r.last)
    (edge_at c ws EarlyCorner j clock edge w.edge_first))
    (ago (edge_at c ws EarlyCorner j i Change r.first)
    (edge_at c ws EarlyCorner j clock edge w.edge_first))

-- two launches may make a region, by the ends of it
abbrev pub two_at_ends : Circuit → Waves → Instance → ℕ → ℕ → Direction → Window → Region → Bool
two_at_ends c ws j clock i edge w r =
    are_two (ago (edge_at c ws LateCorner j i Change r.last)
    (edge_at c ws EarlyCorner j clock edge w.edge_first))
    (ago (edge_at c ws EarlyCorner j i Change r.first)
    (edge_at c ws EarlyCorner j clock edge w.edge_first))

abbrev pub two_at : Circuit → Waves → Instance → ℕ → ℕ → Direction → Window → Region →
    Option (ℕ × ℕ)
two_at c ws j clock i edge w r =
    if are_two (ago (edge_at c ws LateCorner j i Change r.last)
    (edge_at c ws EarlyCorner j clock edge w.edge_first))
    (ago (edge_at c ws EarlyCorner j i Change r.first)
    (edge_at c ws EarlyCorner j clock edge w.edge_first))
    then two_by (period c.header) r (edge_at c ws EarlyCorner j clock edge w.edge_first)
    (pin_arrivals c ws LateCorner j i Change) (pin_arrivals c ws EarlyCorner j i Change)
    else None

abbrev pub launches_at : Circuit → Waves → Instance → ℕ → ℕ → Direction → Launches
launches_at c ws j clock i edge =
    record {
      side = side_at c ws j clock i edge;
      two = two_at c ws j clock i edge;
      last_way = None;
      first_way = None;
    }

-- Of a checker's input, against the rise of its clock. Its windows end at a step of this direction.
abbrev pub checker_launches : Circuit → Waves → Instance → Direction → List Window → Launches
checker_launches c ws j closing windows =
    record {
      side = side_at c ws j 0 1 Rise;
      two = two_at c ws j 0 1 Rise;
      last_way = last_way c ws j closing windows;
      first_way = first_way c ws j closing windows;
    }

-- of a pin beside a marked one, against the step by which the mark lets it through
abbrev pub opening : Bool → Direction
opening true = Fall
opening false = Rise

abbrev pub gate_launches : Circuit → Waves → Instance → ℕ → ℕ → Launches
gate_launches c ws j marked i = launches_at c ws j marked i (opening (closed_bit j.kind))
