-- Ends of pulses: which event one came from, as waves are without their skew. Where one pin of an
-- element moves, its delay is the same at both ends, and takes nothing from a width.
use Rattle.std.specs.Prelude.{ℕ, zero, suc, Bool, true, false, not, ◌&&◌, ◌||◌, List, [], ◌∷◌, filter, length, map, slice_get, if◌then◌else◌, Option, Some, None}
use Rattle.std.specs.List.{range_with_len}
use Rattle.std.specs.Option.{option_map, option_and_then}
use Rattle.scald_base.specs.Clock.{back}
use Rattle.scald_base.specs.Time.{Bounds, Header, period}
use Rattle.vector_names.specs.declared.bits.Target.{Target}
use Rattle.vector_names.specs.declared.bits.Target.TheVariants.{Net as OnNet, Constant}
use Rattle.step_values.specs.declared.value.Value.{Value}
use Rattle.step_values.specs.Steps.{Steps, has}
use Rattle.step_values.specs.Image.{one_step}
use Rattle.step_values.specs.Cell.{values}
use Rattle.skew_algebra.specs.Wave.{Wave, cell_at, is_steady}
use Rattle.element_kinds.specs.Kinds.{is_change}
use Rattle.flat_circuit.specs.declared.instance.Pin.{Pin}
use Rattle.flat_circuit.specs.declared.instance.Instance.{Instance}
use Rattle.flat_circuit.specs.declared.split.Split.{Split}
use Rattle.flat_circuit.specs.Circuit.{Circuit, wire_at}
use Rattle.flat_circuit.specs.Split.{two_delays}
use Rattle.gate_eval.specs.Hold.{first_some, value_of_pin}
use Rattle.fixpoint_engine.specs.Waves.{Waves, pin_waves, target_wave}
use Rattle.critical_paths.specs.declared.direction.Corner.{Corner}
use Rattle.critical_paths.specs.declared.direction.Direction.{Direction}
use Rattle.critical_paths.specs.declared.direction.Direction.TheVariants.{Rise, Fall}
use Rattle.critical_paths.specs.declared.event.Reading.{Reading}
use Rattle.critical_paths.specs.declared.event.Reading.TheVariants.{Folded, Unfolded}
use Rattle.critical_paths.specs.declared.path.Word.{Word}
use Rattle.critical_paths.specs.declared.path.Word.TheVariants.{Tight, Inside, Same}
use Rattle.critical_paths.specs.declared.path.Passage.{Passage}
use Rattle.critical_paths.specs.declared.path.Passage.TheVariants.{Through}
use Rattle.critical_paths.specs.Event.{Event, moves, turned}
use Rattle.critical_paths.specs.Cause.{held_pin, is_heard, output_by}
use Rattle.critical_paths.specs.Path.{Arc, Before, arc_inward, before_arc, choices, delay_to, inward, is_tight}

-- an event, by what the one after it came from it, and how it is read
pub record Read : Type 0 where
  pub passage : Passage
  pub event : Event
  pub reading : Reading

-- ---- the one pin that moves

abbrev pub moves_ever : Header → Waves → Option Pin → Bool
moves_ever h ws None = false
moves_ever h ws (Some pin) = not (is_steady values (target_wave h ws pin.target).cells)

abbrev pub is_moving : Circuit → Waves → Instance → ℕ → Bool
is_moving c ws j i = is_heard c ws j i && moves_ever c.header ws (slice_get j.pins i)

abbrev pub only : List ℕ → Option ℕ
only [] = None
only (i ∷ []) = Some i
only (i ∷ k ∷ more) = None

-- A pin that alone counts is the one.
abbrev pub mover_by : Option ℕ → List ℕ → Option ℕ
mover_by (Some marked) moving = Some marked
mover_by None moving = only moving

abbrev pub mover : Circuit → Waves → Instance → Option ℕ
mover c ws j = mover_by (held_pin c ws j) (filter (is_moving c ws j)
    (range_with_len 0 (length j.pins)))

-- ---- what makes an end

abbrev pub open_values : Circuit → Waves → Instance → ℕ → List Value
open_values c ws j p = map (λ (w : Wave Value). cell_at values w.cells p) (pin_waves c ws j)

-- a step of the pin in a slot makes a step of the output in this direction
abbrev pub open_causes : Circuit → Waves → Instance → Direction → ℕ → ℕ → Steps
open_causes c ws j d p i before after =
    has (value_of_pin (open_values c ws j p) i) before after
    && (is_change j.kind
    || moves d (output_by (held_pin c ws j) j.kind (map has (open_values c ws j p)) i
    (one_step before after)))

-- of two directions the rise
abbrev pub one_of : Bool → Bool → Option Direction
one_of true falls = Some Rise
one_of false true = Some Fall
one_of false false = None

abbrev pub open_cause : Circuit → Waves → Instance → Direction → ℕ → ℕ → Option Direction
open_cause c ws j d p i = one_of (open_causes c ws j d p i false true)
    (open_causes c ws j d p i true false)

-- ---- delays

-- one delay takes its least at both ends, two that of the step
abbrev pub end_delay : Bounds → Direction → Option Split → Bounds
end_delay one d None = record { min = one.min; max = one.min }
end_delay one d (Some s) = delay_to s d

abbrev pub end_word : Option Split → ℕ → Word
end_word None n = Same
end_word (Some s) zero = Tight
end_word (Some s) (suc n) = Inside

-- an end of a pulse at an element's own output, and the delay that it takes there
pub record PulseEnd : Type 0 where
  pub corner : Corner
  pub direction : Direction
  pub slot : ℕ
  pub split : Option Split
  pub delay : Bounds

-- ---- through the one pin that moves

abbrev pub open_arc : Circuit → Waves → Instance → PulseEnd → ℕ → ℕ → Option Arc
open_arc c ws j e i n =
    option_map
    (λ own. record {
      cause = record { pin = i; direction = own; word = end_word e.split n };
      delay = inward e.corner e.delay n;
    })
    (open_cause c ws j e.direction
    (back (period c.header) e.slot (inward e.corner e.delay n)) i)

-- by the least wire
abbrev pub open_target : Circuit → ℕ → Arc → Bool → Target → Option Read
open_target c p a inverted (OnNet m) =
    Some (record {
      passage = Through a.cause.pin (wire_at c.nets m).min a.delay a.cause.word;
      event = record {
        net = m;
        direction = turned inverted a.cause.direction;
        slot = back (period c.header) p (wire_at c.nets m).min;
      };
      reading = Unfolded;
    })
open_target c p a inverted (Constant b) = None

abbrev pub open_pin : Circuit → ℕ → Arc → Option Pin → Option Read
open_pin c p a None = None
open_pin c p a (Some pin) = open_target c p a pin.inverted pin.target

abbrev pub open_before : Circuit → Instance → ℕ → Arc → Option Read
open_before c j q a = open_pin c (back (period c.header) q a.delay) a (slice_get j.pins a.cause.pin)

-- ---- through one of several: from there on by folds

abbrev pub same_if_tight : Option Split → Word → Word
same_if_tight None word = if is_tight word then Same else word
same_if_tight (Some s) word = word

abbrev pub with_word : Option Split → Arc → Arc
with_word two a =
    record {
      cause = record {
        pin = a.cause.pin;
        direction = a.cause.direction;
        word = same_if_tight two a.cause.word;
      };
      delay = a.delay;
    }

abbrev pub by_folds : Before → Read
by_folds b = record { passage = b.passage; event = b.event; reading = Folded }

abbrev pub before_many : Circuit → Waves → Instance → PulseEnd → Option Read
before_many c ws j e =
    option_map by_folds
    (option_and_then (λ a. before_arc c ws j e.corner e.slot (with_word e.split a))
    (arc_inward c ws j e.corner e.direction e.slot e.delay 0))

-- ---- the event before

abbrev pub read_by : Circuit → Waves → Instance → PulseEnd → Option ℕ → Option Read
read_by c ws j e None = before_many c ws j e
read_by c ws j e (Some i) =
    option_and_then (open_before c j e.slot) (first_some (open_arc c ws j e i)
    (choices e.delay) 0)

-- the event that an end of a pulse came from, on a net which this instance drives
abbrev pub read_before : Circuit → Waves → Corner → Event → Instance → Option Read
read_before c ws corner e j =
    let own = turned j.out_inverted e.direction in
    let two = two_delays j.kind j.split in
    read_by c ws j (record {
      corner = corner;
      direction = own;
      slot = e.slot;
      split = two;
      delay = end_delay j.delay own two;
    }) (mover c ws j)
