-- Arrivals: of each edge of an input, the last tick at which a net may change by it, or the first,
-- whatever else its drivers' pins do. They tell launches apart even if the wave of a net does not.
use Rattle.std.specs.Prelude.{ℕ, zero, suc, ◌+◌, ◌==◌, nat_lt, Bool, ◌&&◌, List, [], ◌∷◌, ◌++◌, fold as fold_all, length, map, filter, slice_get, ℤ, pos, ◌-ℤ◌, if◌then◌else◌, unwrap_or, Option, Some, None}
use Rattle.std.specs.List.{range_with_len}
use Rattle.std.specs.Option.{option_map}
use Rattle.std.specs.Ordering.{int_eq}
use Rattle.scald_base.specs.Clock.{back}
use Rattle.scald_base.specs.Time.{Bounds, period}
use Rattle.vector_names.specs.declared.bits.Target.{Target}
use Rattle.vector_names.specs.declared.bits.Target.TheVariants.{Net as OnNet, Constant}
use Rattle.step_values.specs.Cell.{values}
use Rattle.skew_algebra.specs.Wave.{fold}
use Rattle.element_kinds.specs.declared.kind.Kind.{Kind}
use Rattle.element_kinds.specs.declared.kind.Kind.TheVariants.{Buf, And, Or, Xor, Mux2, Mux4, Mux8, Chg, Reg, RegRs, Latch, LatchRs, SetupHold, RiseFall, MinPulse}
use Rattle.element_kinds.specs.Kinds.{listens}
use Rattle.flat_circuit.specs.declared.instance.Pin.{Pin}
use Rattle.flat_circuit.specs.declared.instance.Instance.{Instance}
use Rattle.flat_circuit.specs.declared.split.Split.{Split}
use Rattle.flat_circuit.specs.Circuit.{Circuit, driver, wire_at}
use Rattle.flat_circuit.specs.Split.{two_delays}
use Rattle.fixpoint_engine.specs.Waves.{Waves}
use Rattle.critical_paths.specs.declared.direction.Corner.{Corner}
use Rattle.critical_paths.specs.declared.direction.Corner.TheVariants.{Late, Early}
use Rattle.critical_paths.specs.declared.direction.Direction.{Direction}
use Rattle.critical_paths.specs.declared.direction.Direction.TheVariants.{Rise, Change}
use Rattle.critical_paths.specs.Event.{Events, events, turned}
use Rattle.critical_paths.specs.Region.{Region, all_events, regions}
use Rattle.critical_paths.specs.Path.{bound, delay_to, is_event}
use Rattle.critical_paths.specs.Launch.{offset_of}

-- an edge of a net, and the tick at which what it launches arrives
pub record Arrival : Type 0 where
  pub source : ℕ
  pub edge : ℤ
  pub tick : ℕ

-- ---- at an input

abbrev pub end_of : Corner → Region → ℕ
end_of Late r = r.last
end_of Early r = r.first

-- The edge is the clock's ideal one, or if there is none the change itself.
abbrev pub arrival_at : Circuit → Corner → Direction → ℕ → ℕ → Arrival
arrival_at c corner d i t =
    record {
      source = i;
      edge = pos t -ℤ unwrap_or (offset_of c corner
          (record { net = i; direction = d; slot = back (period c.header) t 0 })) (pos 0);
      tick = t;
    }

abbrev pub ends_of : Circuit → Corner → Direction → ℕ → Events → List Arrival
ends_of c corner d i ev =
    map (λ r. arrival_at c corner d i (end_of corner r)) (regions (period c.header) ev)

-- An input that may change in every slot has no edge of which something could be told.
abbrev pub source_arrivals : Circuit → Waves → Corner → Direction → ℕ → List Arrival
source_arrivals c ws corner d i =
    if all_events (period c.header) (events d (fold values (ws i))) then []
    else ends_of c corner d i (events d (fold values (ws i)))

-- ---- through an element

-- Which steps of a pin count for steps of the element's own output, before its complement: of a
-- gate that keeps the direction those in it, of storage the rises of its clock or enable, and of
-- everything else each change.
abbrev pub first_rises : ℕ → Direction
first_rises i = if i == 0 then Rise else Change

abbrev pub pin_direction : Kind → ℕ → Direction → Direction
pin_direction Buf i d = d
pin_direction And i d = d
pin_direction Or i d = d
pin_direction Xor i d = Change
pin_direction Mux2 i d = Change
pin_direction Mux4 i d = Change
pin_direction Mux8 i d = Change
pin_direction Chg i d = Change
pin_direction Reg i d = first_rises i
pin_direction RegRs i d = first_rises i
pin_direction Latch i d = first_rises i
pin_direction LatchRs i d = first_rises i
pin_direction SetupHold i d = Change
pin_direction RiseFall i d = Change
pin_direction MinPulse i d = Change

abbrev pub delay_by : Option Split → Bounds → Direction → Bounds
delay_by None delay d = delay
delay_by (Some s) delay d = delay_to s d

abbrev pub own_delay : Instance → Direction → Bounds
own_delay j d = delay_by (two_delays j.kind j.split) j.delay d

abbrev pub later_by : ℕ → Arrival → Arrival
later_by ticks a = record { source = a.source; edge = a.edge; tick = a.tick + ticks }

-- those at which the net may change in the direction
abbrev pub events_among : Circuit → Waves → Direction → ℕ → List Arrival → List Arrival
events_among c ws d i arrivals = filter (λ (a : Arrival). is_event c ws (record {
  net = i;
  direction = d;
  slot = back (period c.header) a.tick 0;
})) arrivals

-- ---- the last or the first of each edge

abbrev pub same_edge : Arrival → Arrival → Bool
same_edge a b = (a.source == b.source) && int_eq a.edge b.edge

abbrev pub is_further : Corner → Arrival → Arrival → Bool
is_further Late a b = nat_lt b.tick a.tick
is_further Early a b = nat_lt a.tick b.tick

-- An edge that is there keeps its place, with the further tick of both; another one goes last.
abbrev pub with_further : Corner → List Arrival → Arrival → List Arrival
with_further corner [] new = new ∷ []
with_further corner (old ∷ more) new =
    if same_edge old new then (if is_further corner new old then new else old) ∷ more
    else old ∷ with_further corner more new

abbrev pub furthest : Corner → List Arrival → List Arrival
furthest corner arrivals = fold_all (with_further corner) [] arrivals

-- ---- all pins

abbrev pub joined : Option (List Arrival) → Option (List Arrival) → Option (List Arrival)
joined None more = None
joined (Some some) None = None
joined (Some some) (Some more) = Some (some ++ more)

abbrev pub all_of : List (Option (List Arrival)) → Option (List Arrival)
all_of [] = Some []
all_of (some ∷ more) = joined some (all_of more)

-- what a pin adds, by the arrivals at its net
abbrev pub through_target : Circuit → Corner → Instance → Direction → Direction → Bool → Target →
    (Direction → ℕ → Option (List Arrival)) → Option (List Arrival)
through_target c corner j d own inverted (Constant b) at = Some []
through_target c corner j d own inverted (OnNet m) at =
    option_map (map (later_by (bound corner (wire_at c.nets m) + bound corner (own_delay j d))))
    (at (turned inverted own) m)

-- A pin that the element does not listen to adds nothing.
abbrev pub through_pin : Circuit → Corner → Instance → Direction →
    (Direction → ℕ → Option (List Arrival)) → ℕ → Option Pin → Option (List Arrival)
through_pin c corner j d at i None = Some []
through_pin c corner j d at i (Some pin) =
    if listens j.kind i then through_target c corner j d (pin_direction j.kind i d) pin.inverted
    pin.target at else Some []

abbrev pub through_pins : Circuit → Corner → Instance → Direction →
    (Direction → ℕ → Option (List Arrival)) → Option (List Arrival)
through_pins c corner j d at =
    all_of (map (λ i. through_pin c corner j d at i (slice_get j.pins i))
    (range_with_len 0 (length j.pins)))

abbrev pub arrivals_by : Circuit → Waves → Corner → Direction → ℕ →
    (Direction → ℕ → Option (List Arrival)) → Option Instance → Option (List Arrival)
arrivals_by c ws corner d i at None = Some (source_arrivals c ws corner d i)
arrivals_by c ws corner d i at (Some j) =
    option_map (λ found. furthest corner (events_among c ws d i found))
    (through_pins c corner j (turned j.out_inverted d) at)

-- By ways of at most so many elements. Where one is longer there is a loop, and nothing is known.
abbrev pub arrivals_within : Circuit → Waves → Corner → ℕ → Direction → ℕ → Option (List Arrival)
arrivals_within c ws corner zero d i = None
arrivals_within c ws corner (suc left) d i =
    arrivals_by c ws corner d i (λ own m. arrivals_within c ws corner left own m) (driver c i)

-- the arrivals at a net
unfoldable pub arrivals : Circuit → Waves → Corner → Direction → ℕ → Option (List Arrival)
arrivals c ws corner d i = arrivals_within c ws corner (length c.nets + 1) d i

-- ---- at a pin

abbrev pub arrivals_on : Circuit → Waves → Corner → Direction → Bool → Target →
    Option (List Arrival)
arrivals_on c ws corner d inverted (OnNet i) =
    option_map (map (later_by (bound corner (wire_at c.nets i))))
    (arrivals c ws corner (turned inverted d) i)
arrivals_on c ws corner d inverted (Constant b) = Some []

abbrev pub arrivals_of : Circuit → Waves → Corner → Direction → Option Pin → Option (List Arrival)
arrivals_of c ws corner d None = None
arrivals_of c ws corner d (Some pin) = arrivals_on c ws corner d pin.inverted pin.target

-- the arrivals at a pin of an instance, its wire counted in
abbrev pub pin_arrivals : Circuit → Waves → Corner → Instance → ℕ → Direction →
    Option (List Arrival)
pin_arrivals c ws corner j i d = arrivals_of c ws corner d (slice_get j.pins i)
