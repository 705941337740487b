-- What the program's events, causes and links say, in the words of the definitions.
use Rattle.std.specs.Prelude.{◌≡◌, not, ℕ, ◌+◌, ◌-◌, ◌<◌, ◌≤◌, ◌==◌, min, nat_lt, List, length, map, slice_get, slice_set, Bool, true, is_some, Option, Some, None, ℤ, pos, negsuc, ◌+ℤ◌, ◌-ℤ◌, if◌then◌else◌, ◌&&◌, ◌||◌}
use Rattle.std.specs.Option.{option_map, option_or}
use Rattle.scald_base.specs.Time.{Bounds, period}
use Rattle.step_values.specs.declared.value.Value.{Value}
use Rattle.step_values.specs.Steps.{Steps, has}
use Rattle.step_values.specs.Image.{one_step}
use Rattle.vector_names.specs.declared.bits.Target.{Target}
use Rattle.vector_names.specs.declared.bits.Target.TheVariants.{Net as OnNet, Constant}
use Rattle.element_kinds.specs.declared.kind.Kind.{Kind}
use Rattle.element_kinds.specs.Kinds.{is_change, may_be_marked}
use Rattle.flat_circuit.specs.declared.instance.Pin.{Pin}
use Rattle.flat_circuit.specs.declared.split.Split.{Split}
use Rattle.storage_eval.specs.Storage.{listening}
use Rattle.step_values.specs.Cell.{values, same}
use Rattle.wave_core.specs.Slots.{cell_round}
use Rattle.skew_algebra.specs.Wave.{Wave, IsNormal, cell_at, fold, moved}
use Rattle.flat_circuit.specs.declared.instance.Instance.{Instance}
use Rattle.flat_circuit.specs.Circuit.{Circuit, IsCircuit, wire_at}
use Rattle.flat_circuit.specs.Kind.{pin_counts}
use Rattle.fixpoint_engine.specs.Settled.{marked_in}
use Rattle.fixpoint_engine.specs.Waves.{FitWaves, Waves, marked_pin, pin_wave, pin_waves, target_wave, target_wire, waves_of}
use Rattle.gate_eval.specs.Hold.{first_some, hazard, value_of_pin}
use Rattle.critical_paths.specs.declared.direction.Corner.{Corner}
use Rattle.critical_paths.specs.declared.direction.Corner.TheVariants.{Late as LateCorner, Early as EarlyCorner}
use Rattle.critical_paths.specs.declared.direction.Direction.{Direction}
use Rattle.critical_paths.specs.declared.event.Event.{Event as Noted}
use Rattle.critical_paths.specs.declared.event.Reading.{Reading}
use Rattle.critical_paths.specs.declared.event.Reading.TheVariants.{Folded, Unfolded}
use Rattle.critical_paths.specs.declared.region.Test.{Test}
use Rattle.critical_paths.specs.declared.region.Test.TheVariants.{May, Lacks, Unlike}
use Rattle.critical_paths.specs.declared.cause.Asked.{Asked}
use Rattle.critical_paths.specs.declared.cause.Cause.{Cause as Pinned}
use Rattle.critical_paths.specs.declared.cause.Causes.{Causes}
use Rattle.critical_paths.specs.declared.path.Word.{Word}
use Rattle.critical_paths.specs.declared.path.Word.TheVariants.{Tight, Bounded, Loose, Inside}
use Rattle.critical_paths.specs.declared.region.Region.{Region as Ticks}
use Rattle.critical_paths.specs.declared.back.Arc.{Arc as Delayed}
use Rattle.critical_paths.specs.declared.back.Back.{Back}
use Rattle.critical_paths.specs.declared.view.Behind.{Behind}
use Rattle.critical_paths.specs.Tick.{slot_of}
use Rattle.critical_paths.specs.Event.{Event, Events, direction_by, moves, turned}
use Rattle.critical_paths.specs.Cause.{Cause, if_loose, output_by, output_steps}
use Rattle.critical_paths.specs.Unfolded.{PulseEnd, Read}
use Rattle.critical_paths.specs.Region.{Region}
use Rattle.critical_paths.specs.Path.{Arc, Before, choices, cut_at, cut_off, delay_to, event_before, inward, is_event}

-- the event of a tick, in a period of p
abbrev pub event_of : ℕ → Noted → Event
event_of p e = record { net = e.net; direction = e.direction; slot = slot_of p e.tick }

abbrev pub cause_with : Pinned × Word → Cause
cause_with found = record { pin = found.0.pin; direction = found.0.direction; word = found.1 }

-- the pin, if there are steps of a direction
abbrev pub pinned : ℕ → Option Direction → Option Pinned
pinned pin found = option_map (λ d. record { pin = pin; direction = d }) found

abbrev pub with_word : Word → Pinned → Cause
with_word word found = record { pin = found.pin; direction = found.direction; word = word }

-- the direction of the steps that make one, of which all end
abbrev pub whole_of : Bool × Bool → Bool × Bool → Option Direction
whole_of made ended =
    if (not made.0 || ended.0) && (not made.1 || ended.1) then direction_by made.0 made.1 else None

-- the tightest of the first pins of each kind
abbrev pub best_of : Causes → Option Cause
best_of found =
    option_or (option_map (with_word Tight) found.whole)
    (option_or (option_map (with_word Tight) found.part)
    (if_loose (λ other. option_map (with_word (Bounded other)) found.bound)
    (option_map (with_word Loose) found.loose)))

abbrev pub arc_with_word : Delayed → Arc
arc_with_word a = record { cause = cause_with (a.cause, a.word); delay = a.delay }

-- the pin that makes a step after a delay, which may be inside of its bounds
abbrev pub arc_off : ℕ → Bool → Cause → Arc
arc_off delay is_inside found =
    record {
      cause = record {
        pin = found.pin;
        direction = found.direction;
        word = if is_inside then Inside else found.word;
      };
      delay = delay;
    }

-- a pin that makes one
abbrev pub arc_of : ℕ → Word → Pinned → Arc
arc_of delay word found =
    record {
      cause = record { pin = found.pin; direction = found.direction; word = word };
      delay = delay;
    }

abbrev pub before_of : ℕ → Back → Before
before_of p b = record { passage = b.passage; event = event_of p b.event }

-- an event before, and how it is read
abbrev pub read_of : ℕ → Back → Read
read_of p b = record { passage = b.passage; event = event_of p b.event; reading = b.event.reading }

-- the ticks of a region
abbrev pub ticks_of_region : Region → Ticks
ticks_of_region r = record { first = pos r.first; last = pos r.last }

-- the end of a region that counts at a corner
abbrev pub end_at : Corner → Ticks → ℤ
end_at LateCorner r = r.last
end_at EarlyCorner r = r.first

-- so many ticks later
abbrev pub later_by : ℤ → Ticks → Ticks
later_by ticks r = record { first = r.first +ℤ ticks; last = r.last +ℤ ticks }

-- ---- what is seen

-- Waves of a circuit's nets in normal form, and the instances whose mark has a hazard in them.
pub record Sees (c : Circuit) (waves : List (Wave Value)) (hazards : List Bool) : Type 0 where
  pub circuit : IsCircuit c
  pub fit : FitWaves c waves
  pub normal : (i : ℕ) → i < length c.nets → IsNormal values (waves_of waves i)
  pub marks : (k : ℕ) (j : Instance) → slice_get c.instances k ≡ Some j →
      marked_in hazards k ≡ is_some (hazard j.kind (pin_waves c (waves_of waves) j) (marked_pin j))

-- the pin is on a net of the circuit, or on a constant
abbrev pub IsPin : Circuit → Pin → Type 0
IsPin c pin = (i : ℕ) → pin.target ≡ OnNet i → i < length c.nets

-- what a slot holds as the wave is read
abbrev pub shown : Reading → Wave Value → ℕ → Value
shown Folded w p = fold values w p
shown Unfolded w p = cell_at values w.cells p

-- the wave that shows behind a pin, its complement not counted
abbrev pub target_shown : Circuit → Waves → Target → Wave Value
target_shown c ws target = moved values (target_wave c.header ws target) (target_wire c.nets target)

-- by how many ticks more than its wire's least delay a net's step may show at a pin, in a period of
-- p
abbrev pub reach_of : Reading → ℕ → Bounds → ℕ → ℕ
reach_of Folded skew wire p = min (skew + (wire.max - wire.min)) (p - 1)
reach_of Unfolded skew wire p = 0

-- what each of these pins shows
abbrev pub pins_shown : Circuit → Waves → List Pin → Reading → ℕ → List Value
pins_shown c ws pins reading p = map (λ w. shown reading w p) (map (pin_wave c ws) pins)

-- ---- the net behind a pin

-- the event behind a pin, the wire to it, and whether that lies within its bounds
pub record Hidden : Type 0 where
  pub event : Event
  pub wire : ℕ
  pub is_inside : Bool

abbrev pub hidden : ℕ → Behind → Hidden
hidden p b = record { event = event_of p b.event; wire = b.wire; is_inside = b.is_inside }

abbrev pub behind_at : Circuit → Waves → Corner → ℕ → Direction → ℕ → ℕ → Option Hidden
behind_at c ws corner p d i n =
    if is_event c ws (event_before corner (period c.header) p (wire_at c.nets i) d i n)
    then Some (record {
      event = event_before corner (period c.header) p (wire_at c.nets i) d i n;
      wire = inward corner (wire_at c.nets i) n;
      is_inside = nat_lt 0 n;
    })
    else None

abbrev pub behind : Circuit → Waves → Corner → ℕ → Direction → Target → Option Hidden
behind c ws corner p d (OnNet i) = first_some (behind_at c ws corner p d i)
    (choices (wire_at c.nets i)) 0
behind c ws corner p d (Constant bit) = None

-- ---- a chosen step

-- the steps of each pin, if one makes this step
abbrev pub choosing : List Value → ℕ → Bool → Bool → List Steps
choosing found pin before after = slice_set (map has found) pin (one_step before after)

-- those of one pin
abbrev pub chosen : List Value → ℕ → Bool → Bool → ℕ → Steps
chosen found pin before after i = if i == pin then one_step before after else has
    (value_of_pin found i)

-- the step of the pin makes a step of the output in this direction
abbrev pub makes : Kind → List Value → ℕ → Bool → Bool → Direction → Bool
makes kind found pin before after d =
    is_change kind || moves d (output_steps kind (listening kind (choosing found pin before after)))

-- The pin may make the step, and it makes one of the output. A pin that alone counts is heard
-- alone.
abbrev pub may_make : Option ℕ → Kind → List Value → ℕ → Bool → Bool → Direction → Bool
may_make held kind found pin before after d =
    has (value_of_pin found pin) before after
    && (is_change kind || moves d (output_by held kind (map has found) pin (one_step before after)))

-- ---- tests

abbrev pub passes : Test → Value → Bool
passes (May d) v = moves d (has v)
passes (Lacks d) v = not (moves d (has v))
passes (Unlike other) v = not (same v other)

-- the ticks at which a test passes
unfoldable pub passing : Test → List Value → Events
passing test cells t = passes test (cell_round values cells t)

-- ---- what is asked of an element

-- so many pins may an element of the kind have
abbrev pub IsCount : Kind → ℕ → Type 0
IsCount kind count = ((pin_counts kind).0 ≤ count) × (count ≤ (pin_counts kind).1)

-- a pin that alone counts is one of a kind of which a pin may be marked
abbrev pub MayHold : Option ℕ → Kind → Type 0
MayHold None kind = Unit {0}
MayHold (Some marked) kind = may_be_marked kind ≡ true

-- What is asked of its driver for an event: the step of its own output, at the same tick.
pub record IsAskedOf (tick : ℤ) (corner : Corner) (direction : Direction) (j : Instance)
    (e : Noted) : Type 0 where
  pub same_tick : e.tick ≡ tick
  pub same_corner : e.corner ≡ corner
  pub own : turned j.out_inverted e.direction ≡ direction

-- what is asked of an element's output as an end of a pulse, in a period of p
abbrev pub end_asked : ℕ → Asked → Bounds → PulseEnd
end_asked p asked delay =
    record {
      corner = asked.corner;
      direction = asked.direction;
      slot = slot_of p asked.tick;
      split = asked.element.now.split;
      delay = delay;
    }

-- the delay of the output's own steps of a direction
abbrev pub delay_by : Bounds → Direction → Option Split → Bounds
delay_by one d None = one
delay_by one d (Some s) = delay_to s d

abbrev pub delay_of_step : Instance → Direction → Bounds
delay_of_step j d = delay_by j.delay d j.split

-- ---- what cuts an event short

-- the other step of a net, at a tick, at the one before it or at the one after
abbrev pub cut_near : Circuit → Waves → Instance → Corner → ℕ → ℤ → Split → Direction →
    Option Before
cut_near c ws j corner net tick s other =
    option_or (cut_at c ws j corner s
    (cut_off net other (pos 0) (slot_of (period c.header) (tick -ℤ pos 0))))
    (option_or (cut_at c ws j corner s
    (cut_off net other (pos 1) (slot_of (period c.header) (tick -ℤ pos 1))))
    (cut_at c ws j corner s
    (cut_off net other (negsuc 0) (slot_of (period c.header) (tick -ℤ negsuc 0)))))
