-- Links: which event an event came from.
use Rattle.std.specs.Prelude.{ℕ, zero, suc, ◌+◌, ◌-◌, Bool, true, false, ◌&&◌, List, slice_get, if◌then◌else◌, Option, Some, None, is_some, ℤ, pos, negsuc}
use Rattle.std.specs.Option.{option_map, option_or, option_and_then}
use Rattle.scald_base.specs.Clock.{back}
use Rattle.scald_base.specs.Time.{Bounds, period}
use Rattle.vector_names.specs.declared.bits.Target.{Target}
use Rattle.vector_names.specs.declared.bits.Target.TheVariants.{Net as OnNet, Constant}
use Rattle.step_values.specs.Steps.{has}
use Rattle.step_values.specs.Cell.{values}
use Rattle.skew_algebra.specs.Wave.{fold}
use Rattle.flat_circuit.specs.declared.instance.Pin.{Pin}
use Rattle.flat_circuit.specs.declared.instance.Instance.{Instance}
use Rattle.flat_circuit.specs.declared.split.Split.{Split}
use Rattle.flat_circuit.specs.Circuit.{Circuit, wire_at}
use Rattle.flat_circuit.specs.Split.{either_delay, two_delays}
use Rattle.gate_eval.specs.Hold.{first_some}
use Rattle.fixpoint_engine.specs.Waves.{Waves}
use Rattle.critical_paths.specs.declared.direction.Corner.{Corner}
use Rattle.critical_paths.specs.declared.direction.Corner.TheVariants.{Late, Early}
use Rattle.critical_paths.specs.declared.direction.Direction.{Direction}
use Rattle.critical_paths.specs.declared.direction.Direction.TheVariants.{Rise, Fall, Change}
use Rattle.critical_paths.specs.declared.path.Word.{Word}
use Rattle.critical_paths.specs.declared.path.Word.TheVariants.{Tight, Bounded, Loose, Inside, Same}
use Rattle.critical_paths.specs.declared.path.Passage.{Passage}
use Rattle.critical_paths.specs.declared.path.Passage.TheVariants.{Through, Cut}
use Rattle.critical_paths.specs.Event.{Event, moves, opposite, turned}
use Rattle.critical_paths.specs.Cause.{Cause, cause_of}

-- ---- what a path is

-- an event, and by what it came from the one before it
pub record Link : Type 0 where
  pub event : Event
  pub passage : Passage

-- A path ends if nothing drives the net, if the event stands in an earlier link, or if no pin
-- causes it: two levels meet, or set and reset are both there.
pub data End : Type 0 where
  Source : End
  Loop : End
  Nothing : End

-- the links from an event back, and the event at which they end
pub record Path : Type 0 where
  pub links : List Link
  pub last : Event
  pub end : End

-- the net may make a step of the direction in the slot, however late it comes
abbrev pub is_event : Circuit → Waves → Event → Bool
is_event c ws e = moves e.direction (has (fold values (ws e.net) e.slot))

-- ---- delays, from a corner inward

abbrev pub bound : Corner → Bounds → ℕ
bound Late d = d.max
bound Early d = d.min

abbrev pub inward : Corner → Bounds → ℕ → ℕ
inward Late d n = d.max - n
inward Early d n = d.min + n

-- how many there are
abbrev pub choices : Bounds → ℕ
choices d = d.max - d.min + 1

-- at the corner the word stands, and off it this one
abbrev pub word_off : ℕ → Word → Word
word_off zero word = word
word_off (suc n) word = Inside

-- ---- through the driver

-- a pin that causes an event, and the delay after which it does
pub record Arc : Type 0 where
  pub cause : Cause
  pub delay : ℕ

abbrev pub arc : ℕ → ℕ → Cause → Arc
arc delay n cause =
    record {
      cause = record { pin = cause.pin; direction = cause.direction; word = word_off n cause.word };
      delay = delay;
    }

-- what causes a step of the driver's own output n delays inward from a corner
abbrev pub arc_inward : Circuit → Waves → Instance → Corner → Direction → ℕ → Bounds → ℕ →
    Option Arc
arc_inward c ws j corner d q bounds n =
    option_map (arc (inward corner bounds n) n) (cause_of c ws j corner d
    (back (period c.header) q (inward corner bounds n)))

-- the first, from the corner inward
abbrev pub arc_in : Circuit → Waves → Instance → Corner → Direction → ℕ → Bounds → Option Arc
arc_in c ws j corner d q bounds = first_some (arc_inward c ws j corner d q bounds) (choices bounds)
    0

-- ---- through one of two delays

abbrev pub is_tight : Word → Bool
is_tight Tight = true
is_tight (Bounded other) = false
is_tight Loose = false
is_tight Inside = false
is_tight Same = false

abbrev pub is_bounded : Word → Bool
is_bounded Tight = false
is_bounded (Bounded other) = true
is_bounded Loose = false
is_bounded Inside = false
is_bounded Same = false

abbrev pub is_any : Word → Bool
is_any word = true

abbrev pub if_word : (Word → Bool) → Option Arc → Option Arc
if_word test None = None
if_word test (Some a) = if test a.cause.word then Some a else None

-- the direction is asked for
abbrev pub asks : Direction → Direction → Bool
asks Rise Rise = true
asks Rise Fall = false
asks Rise Change = false
asks Fall Rise = false
asks Fall Fall = true
asks Fall Change = false
asks Change d = true

abbrev pub delay_to : Split → Direction → Bounds
delay_to s Rise = s.rise
delay_to s Fall = s.fall
delay_to s Change = either_delay s

-- what causes steps of one direction at the corner of their own delay, if they are asked for
abbrev pub arc_at_corner : Circuit → Waves → Instance → Corner → Direction → ℕ → Split →
    (Word → Bool) → Direction → Option Arc
arc_at_corner c ws j corner d q s test own =
    if asks d own then if_word test (arc_inward c ws j corner own q (delay_to s own) 0) else None

-- rises before falls
abbrev pub arc_with : Circuit → Waves → Instance → Corner → Direction → ℕ → Split → (Word → Bool) →
    Option Arc
arc_with c ws j corner d q s test =
    option_or (arc_at_corner c ws j corner d q s test Rise)
    (arc_at_corner c ws j corner d q s test Fall)

-- what ends at its corner
abbrev pub firm_arc : Circuit → Waves → Instance → Corner → Direction → ℕ → Split → Option Arc
firm_arc c ws j corner d q s =
    option_or (arc_with c ws j corner d q s is_tight) (arc_with c ws j corner d q s is_bounded)

-- what goes on, or lies off its corner
abbrev pub inner_arc : Circuit → Waves → Instance → Corner → Direction → ℕ → Split → Direction →
    Option Arc
inner_arc c ws j corner d q s own =
    if asks d own then arc_in c ws j corner own q (delay_to s own) else None

abbrev pub free_arc : Circuit → Waves → Instance → Corner → Direction → ℕ → Split → Option Arc
free_arc c ws j corner d q s =
    option_or (arc_with c ws j corner d q s is_any)
    (option_or (inner_arc c ws j corner d q s Rise) (inner_arc c ws j corner d q s Fall))

-- ---- the event before

-- an event, and by what the one after it came from it
pub record Before : Type 0 where
  pub passage : Passage
  pub event : Event

abbrev pub event_before : Corner → ℕ → ℕ → Bounds → Direction → ℕ → ℕ → Event
event_before corner period p wire d i n =
    record { net = i; direction = d; slot = back period p (inward corner wire n) }

-- through a pin and n wire delays inward from the corner, if its net has the event there
abbrev pub before_wire : Circuit → Waves → Corner → ℕ → Arc → Direction → ℕ → ℕ → Option Before
before_wire c ws corner p a d i n =
    if is_event c ws (event_before corner (period c.header) p (wire_at c.nets i) d i n)
    then Some (record {
      passage = Through a.cause.pin (inward corner (wire_at c.nets i) n) a.delay
          (word_off n a.cause.word);
      event = event_before corner (period c.header) p (wire_at c.nets i) d i n;
    })
    else None

abbrev pub before_target : Circuit → Waves → Corner → ℕ → Arc → Bool → Target → Option Before
before_target c ws corner p a inverted (OnNet i) =
    first_some (before_wire c ws corner p a (turned inverted a.cause.direction) i)
    (choices (wire_at c.nets i)) 0
before_target c ws corner p a inverted (Constant b) = None

abbrev pub before_pin : Circuit → Waves → Corner → ℕ → Arc → Option Pin → Option Before
before_pin c ws corner p a None = None
before_pin c ws corner p a (Some pin) = before_target c ws corner p a pin.inverted pin.target

abbrev pub before_arc : Circuit → Waves → Instance → Corner → ℕ → Arc → Option Before
before_arc c ws j corner q a =
    before_pin c ws corner (back (period c.header) q a.delay) a (slice_get j.pins a.cause.pin)

-- the other step of the net in a slot, which the event comes so many ticks after
abbrev pub cut_off : ℕ → Direction → ℤ → ℕ → Before
cut_off net other after slot =
    record { passage = Cut after; event = record { net = net; direction = other; slot = slot } }

-- that step may come there, and ends at the corner of its own delay
abbrev pub is_cut_by : Circuit → Waves → Instance → Corner → Split → Before → Bool
is_cut_by c ws j corner s b =
    is_event c ws b.event
    && is_some (arc_with c ws j corner (turned j.out_inverted b.event.direction) b.event.slot s
    is_tight)

abbrev pub cut_at : Circuit → Waves → Instance → Corner → Split → Before → Option Before
cut_at c ws j corner s b = if is_cut_by c ws j corner s b then Some b else None

-- looked for in the slot of the event, then in the one before it and in the one after
abbrev pub cut_by : Circuit → Waves → Instance → Corner → ℕ → ℕ → Split → Direction → Option Before
cut_by c ws j corner net slot s other =
    option_or (cut_at c ws j corner s (cut_off net other (pos 0) (back (period c.header) slot 0)))
    (option_or (cut_at c ws j corner s (cut_off net other (pos 1) (back (period c.header) slot 1)))
    (cut_at c ws j corner s (cut_off net other (negsuc 0) (back (period c.header) (slot + 1) 0))))

-- A rise of the driver's own output is cut off by a fall, and a fall by a rise.
abbrev pub cut_own : Circuit → Waves → Instance → Corner → Event → Direction → Split → Direction →
    Option Before
cut_own c ws j corner e d s own =
    if asks d own then cut_by c ws j corner e.net e.slot s (turned j.out_inverted (opposite own))
    else None

abbrev pub cut : Circuit → Waves → Instance → Corner → Event → Direction → Split → Option Before
cut c ws j corner e d s =
    option_or (cut_own c ws j corner e d s Rise) (cut_own c ws j corner e d s Fall)

-- With one delay, what causes it; with two, what ends at a corner, or else what cuts it off, or
-- else any cause.
abbrev pub before_by : Circuit → Waves → Instance → Corner → Event → Direction → Option Split →
    Option Before
before_by c ws j corner e own None =
    option_and_then (before_arc c ws j corner e.slot) (arc_in c ws j corner own e.slot j.delay)
before_by c ws j corner e own (Some s) =
    option_or (option_and_then (before_arc c ws j corner e.slot)
    (firm_arc c ws j corner own e.slot s))
    (option_or (cut c ws j corner e own s)
    (option_and_then (before_arc c ws j corner e.slot) (free_arc c ws j corner own e.slot s)))

-- the event that an event of a net which this instance drives came from
abbrev pub before : Circuit → Waves → Corner → Event → Instance → Option Before
before c ws corner e j =
    before_by c ws j corner e (turned j.out_inverted e.direction) (two_delays j.kind j.split)
