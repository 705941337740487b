-- Laws of paths.
use Rattle.std.specs.Prelude.{◌≡◌, ◌≢◌, ◌↔◌, ℕ, ◌+◌, ◌-◌, ◌<◌, ◌≤◌, Bool, true, false, length, None}
use Rattle.std.specs.List.{All, list_any}
use Rattle.scald_base.specs.Clock.{back}
use Rattle.scald_base.specs.Time.{Bounds, period}
use Rattle.step_values.specs.declared.value.Value.{Value}
use Rattle.step_values.specs.Steps.{has}
use Rattle.step_values.specs.Cell.{values}
use Rattle.skew_algebra.specs.Wave.{Wave, fold, moved}
use Rattle.flat_circuit.specs.Circuit.{Circuit, IsCircuit, driver}
use Rattle.fixpoint_engine.specs.Waves.{Waves}
use Rattle.critical_paths.specs.declared.direction.Corner.{Corner}
use Rattle.critical_paths.specs.Event.{Event, same_event}
use Rattle.critical_paths.specs.Path.{Link, End, Source, Loop, Nothing, Path, is_event}
use Rattle.critical_paths.specs.Walk.{event_count, path_of}

-- ---- each link is an event

abbrev pub IsEvent : Circuit → Waves → Event → Type 0
IsEvent c ws e = is_event c ws e ≡ true

pub record AreEvents (c : Circuit) (ws : Waves) (path : Path) : Type 0 where
  pub links : All (λ (l : Link). IsEvent c ws l.event) path.links
  pub last : IsEvent c ws path.last

-- The nets of a path may change where it says, if the net that it is of does.
abbrev pub PathsAreEvents : Type 0
PathsAreEvents =
    (c : Circuit) (ws : Waves) (corner : Corner) (e : Event) → IsEvent c ws e →
    AreEvents c ws (path_of c ws corner e)

-- ---- where a path ends

-- A source is a net that nothing drives; if no pin causes an event some element drives the net;
-- and a loop ends at an event of one of its links.
abbrev pub EndsAt : Circuit → Path → End → Type 0
EndsAt c path Source = driver c path.last.net ≡ None
EndsAt c path Loop = list_any (λ (l : Link). same_event path.last l.event) path.links ≡ true
EndsAt c path Nothing = driver c path.last.net ≢ None

pub record IsFinite (c : Circuit) (path : Path) : Type 0 where
  pub short : length path.links ≤ event_count c
  pub ends : EndsAt c path path.end

-- A path has at most as many links as there are events, one for each net, slot and direction.
abbrev pub PathsAreFinite : Type 0
PathsAreFinite =
    (c : Circuit) (ws : Waves) (corner : Corner) (e : Event) → IsCircuit c → 0 < period c.header →
    e.net < length c.nets → e.slot < period c.header → IsFinite c (path_of c ws corner e)

-- ---- corners

-- the wave may make the step a delay of these bounds before the slot, however late it comes
pub record MovesWithin (z : Wave Value) (d : Bounds) (slot : ℕ) (before after : Bool) : Type 0 where
  pub delay : ℕ
  pub least : d.min ≤ delay
  pub most : delay ≤ d.max
  pub is : has (fold values z (back (length z.cells) slot delay)) before after ≡ true

-- A wave that is late by a delay makes a change exactly where the wave makes it, a delay of its
-- bounds before.
abbrev pub ChangesMove : Type 0
ChangesMove =
    (z : Wave Value) (d : Bounds) (slot : ℕ) (before after : Bool) → 2 ≤ length z.cells →
    d.min ≤ d.max → before ≢ after →
    (has (fold values (moved values z d) slot) before after ≡ true) ↔ MovesWithin z d slot before
    after

-- So the last slot of a change is the greatest delay after the wave's last, and the first the least
-- delay after its first.
pub record IsAtCorner (z : Wave Value) (delay slot beside : ℕ) (before after : Bool) : Type 0 where
  pub here : has (fold values z (back (length z.cells) slot delay)) before after ≡ true
  pub ends : has (fold values z (back (length z.cells) beside delay)) before after ≡ false

abbrev pub LastIsAtCorner : Type 0
LastIsAtCorner =
    (z : Wave Value) (d : Bounds) (slot : ℕ) (before after : Bool) → 2 ≤ length z.cells →
    d.min ≤ d.max → before ≢ after →
    has (fold values (moved values z d) slot) before after ≡ true →
    has (fold values (moved values z d) (slot + 1)) before after ≡ false →
    IsAtCorner z d.max slot (slot + 1) before after

abbrev pub FirstIsAtCorner : Type 0
FirstIsAtCorner =
    (z : Wave Value) (d : Bounds) (slot : ℕ) (before after : Bool) → 2 ≤ length z.cells →
    d.min ≤ d.max → before ≢ after →
    has (fold values (moved values z d) slot) before after ≡ true →
    has (fold values (moved values z d) (slot + (length z.cells - 1))) before after ≡ false →
    IsAtCorner z d.min slot (slot + (length z.cells - 1)) before after
