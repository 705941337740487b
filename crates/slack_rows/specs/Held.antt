-- What launches say of what the program holds against something: of a pin against the steps of
-- another one.
use Rattle.std.specs.Prelude.{◌≡◌, ℕ, zero, suc, ◌*◌, ◌<◌, ◌≤◌, ◌^◌, not, ◌&&◌, ◌||◌, ℤ, pos, ◌+ℤ◌, ◌-ℤ◌, ◌≤ℤ◌, int_lt, ◌==◌, is_some, Bool, true, false, List, [], ◌∷◌, ◌++◌, filter, length, map, if◌then◌else◌, Option, Some, None}
use Rattle.std.specs.List.{All, list_any}
use Rattle.std.specs.Option.{option_map, option_or}
use Rattle.scald_base.specs.Clock.{back}
use Rattle.scald_base.specs.Time.{period}
use Rattle.flat_circuit.specs.declared.instance.Pin.{Pin}
use Rattle.flat_circuit.specs.Circuit.{Circuit}
use Rattle.fixpoint_engine.specs.Waves.{Waves}
use Rattle.critical_paths.specs.declared.direction.Corner.{Corner}
use Rattle.critical_paths.specs.declared.direction.Corner.TheVariants.{Late as LateCorner, Early as EarlyCorner}
use Rattle.critical_paths.specs.declared.direction.Direction.{Direction}
use Rattle.critical_paths.specs.declared.direction.Direction.TheVariants.{Change}
use Rattle.critical_paths.specs.declared.region.Region.{Region as Ticked}
use Rattle.critical_paths.specs.declared.region.Slots.{Slots}
use Rattle.critical_paths.specs.declared.path.Node.{Node}
use Rattle.critical_paths.specs.declared.path.Paths.{Paths}
use Rattle.critical_paths.specs.Tick.{IsWithin}
use Rattle.critical_paths.specs.Event.{Events, events, moves}
use Rattle.critical_paths.specs.Region.{IsCyclic, Region, all_events, regions}
use Rattle.critical_paths.specs.declared.path.At.{At}
use Rattle.critical_paths.specs.Known.{Grows, IsShortPath, Knows}
use Rattle.critical_paths.specs.Reached.{KeepsArrivals}
use Rattle.critical_paths.specs.Views.{IsPin, later_by, ticks_of_region}
use Rattle.critical_paths.specs.Walk.{pin_path_of}
use Rattle.critical_paths.specs.Launch.{Edge, ago, edge_of_pin}
use Rattle.critical_paths.specs.Arrival.{arrivals_of}
use Rattle.slack_rows.specs.declared.around.Around.{Around}
use Rattle.slack_rows.specs.declared.around.Side.{Side as Counted}
use Rattle.slack_rows.specs.declared.around.Side.TheVariants.{Before as LiesBefore, Late as CountsLate, Early as CountsEarly, After as LiesAfter}
use Rattle.slack_rows.specs.declared.held.Held.{Held}
use Rattle.critical_paths.specs.declared.event.PinEvent.{PinEvent}
use Rattle.slack_rows.specs.declared.slack.Slacks.{Slacks}
use Rattle.slack_rows.specs.declared.window.Window.{Window as Ticks}
use Rattle.slack_rows.specs.declared.window.Extent.{Extent}
use Rattle.slack_rows.specs.Window.{Side, Either, Window, about, counts_after, counts_before, meets, extent_of}
use Rattle.slack_rows.specs.Slack.{Launches, Slack, Finding, Watch, after_window, is_broken, is_free, before_window, is_open, least, no_launches, finding_after, finding_before, finding_of, two_in}
use Rattle.slack_rows.specs.Limit.{beside_by_arrivals, in_windows, is_beside, finding_never, finding_pin}
use Rattle.slack_rows.specs.declared.parameter.Word.TheVariants.{Gate, Before as GateBefore, After as GateAfter}
use Rattle.slack_rows.specs.declared.slack.Reason.{Reason}
use Rattle.slack_rows.specs.declared.slack.Reason.TheVariants.{Data as ByData, Level, Mark as ByMark, Still as ByAssertion}
use Rattle.slack_rows.specs.declared.slack.Finding.{Finding as Found}
use Rattle.step_values.specs.Steps.{has}
use Rattle.step_values.specs.declared.value.Value.{Value}
use Rattle.flat_circuit.specs.declared.instance.Instance.{Instance}
use Rattle.point_check.specs.Window.{Folds}
use Rattle.slack_rows.specs.Launched.{are_two, side_by, two_by}
use Rattle.slack_rows.specs.Views.{Tells, ahead_of, counts_first, counts_last, is_starred, is_two, meets_window, region_in, slack_finding, finding_none, window_about, window_in}

-- the ideal edge that a step comes from which the pin shows at a tick
abbrev pub edge_at_pin : Circuit → Waves → Corner → Pin → Direction → ℕ → Option Edge
edge_at_pin c ws corner pin d tick =
    edge_of_pin c corner tick (pin_path_of c ws corner (back (period c.header) tick 0) d (Some pin))

-- the edge that a region is held against, and how long before it the last and the first of its
-- changes are launched
abbrev pub held_edge : Circuit → Waves → Held → Window → Option Edge
held_edge c ws held w = edge_at_pin c ws EarlyCorner held.clock held.opens w.edge_first

abbrev pub last_ago : Circuit → Waves → Held → Window → Region → Option ℤ
last_ago c ws held w r = ago (edge_at_pin c ws LateCorner held.pin Change r.last)
    (held_edge c ws held w)

abbrev pub first_ago : Circuit → Waves → Held → Window → Region → Option ℤ
first_ago c ws held w r = ago (edge_at_pin c ws EarlyCorner held.pin Change r.first)
    (held_edge c ws held w)

abbrev pub held_side : Circuit → Waves → Held → Window → Region → Side
held_side c ws held w r = side_by (last_ago c ws held w r) (first_ago c ws held w r)

abbrev pub held_two : Circuit → Waves → Held → Window → Region → Option (ℕ × ℕ)
held_two c ws held w r =
    if are_two (last_ago c ws held w r) (first_ago c ws held w r)
    then two_by (period c.header) r (held_edge c ws held w)
    (arrivals_of c ws LateCorner Change (Some held.pin))
    (arrivals_of c ws EarlyCorner Change (Some held.pin))
    else None

-- of a net nothing is known of launches
abbrev pub launches_of : Circuit → Waves → Option Held → Launches
launches_of c ws None = no_launches
launches_of c ws (Some held) =
    record {
      side = held_side c ws held;
      two = held_two c ws held;
      last_way = None;
      first_way =
          None;
    }

-- an edge as the program counts its tick, so many ticks before
abbrev pub finding_back : ℕ → Edge → ℕ × ℤ
finding_back ticks e = (e.net, e.tick -ℤ pos ticks)

-- a path that the program has found, if it has found one
abbrev pub IsNearPath : List Node → Option At → Type 0
IsNearPath nodes None = Unit {0}
IsNearPath nodes (Some at) = (at.node < length nodes) × IsShortPath nodes at

-- the side of a region by its launches; of a net nothing is known of them
abbrev pub side_held : Circuit → Waves → Option Held → Window → Region → Side
side_held c ws None w r = Either
side_held c ws (Some held) w r = held_side c ws held w r

-- where a region lies by its ends, if it does not cover the window and does not lie in it
abbrev pub lies_open : Bool → Bool → Option Counted
lies_open true true = None
lies_open true false = Some CountsLate
lies_open false true = Some CountsEarly
lies_open false false = None

abbrev pub lies_by_ends : Ticks → Ticked → Option Counted
lies_by_ends w r =
    if int_lt r.last w.from then Some LiesBefore
    else if int_lt w.to r.first then Some LiesAfter
    else lies_open (int_lt r.first w.from) (int_lt w.to r.last)

-- ---- two launches

-- two launches may make a region, by the ends of it
abbrev pub two_of : Circuit → Waves → Option Held → Window → Region → Bool
two_of c ws None w r = false
two_of c ws (Some held) w r = are_two (last_ago c ws held w r) (first_ago c ws held w r)

-- ---- what is asked

-- its pins are those of the circuit
pub record IsHeld (c : Circuit) (held : Held) : Type 0 where
  pub pin : IsPin c held.pin
  pub clock : IsPin c held.clock

abbrev pub MayBeHeld : Circuit → Option Held → Type 0
MayBeHeld c None = Unit {0}
MayBeHeld c (Some held) = IsHeld c held

-- The paths know what they did of the case, have lost no event, and know its arrivals exactly if they
-- did.
pub record GoesOn (c : Circuit) (ws : Waves) (old new : Paths) : Type 0 where
  pub knows : Knows c ws new.nodes new.met.entries
  pub grows : Grows old.nodes new.nodes
  pub keeps : KeepsArrivals c ws old new

-- a region that begins in a period of p, as the program counts its ticks
pub record IsInPeriod (p : ℕ) (r : Ticked) : Type 0 where
  pub from : pos 0 ≤ℤ r.first
  pub ordered : r.first ≤ℤ r.last
  pub near : r.last ≤ℤ pos (2 * p)

-- one that is not before the ticks that the definitions count, and not far from the period
pub record IsClose (p : ℕ) (r : Ticked) : Type 0 where
  pub from : pos 0 ≤ℤ (pos (3 * p) +ℤ r.first)
  pub ordered : r.first ≤ℤ r.last
  pub first : IsWithin (2 ^ 20) r.first
  pub last : IsWithin (2 ^ 20) r.last

abbrev pub MayBeClose : ℕ → Option Ticked → Type 0
MayBeClose p None = Unit {0}
MayBeClose p (Some r) = IsClose p r

-- a window of which the same holds
pub record IsCloseWindow (p : ℕ) (w : Ticks) : Type 0 where
  pub edge : pos 0 ≤ℤ (pos (3 * p) +ℤ w.first)
  pub ends : pos 0 ≤ℤ (pos (3 * p) +ℤ w.last)
  pub opens : pos 0 ≤ℤ (pos (3 * p) +ℤ (w.from -ℤ pos 1))
  pub ordered : (w.from -ℤ pos 1) ≤ℤ w.to
  pub first : IsWithin (2 ^ 20) w.first
  pub last : IsWithin (2 ^ 20) w.last
  pub from : IsWithin (2 ^ 20) w.from
  pub to : IsWithin (2 ^ 20) w.to

-- ---- the regions about a window

-- where a region lies about a window, and for which of its ends it counts
pub record Lies (launched : Region → Side) (pair : Region → Bool) (w : Window) (r : Region)
    (side : Counted) : Type 0 where
  pub last : counts_last side ≡ counts_before launched w r
  pub first : counts_first side ≡ counts_after launched w r
  pub met : meets_window side ≡ meets w r
  pub two : is_two side ≡ (meets w r && (is_open w r && pair r))

abbrev pub last_item : {A : Type 0} → List A → Option A
last_item [] = None
last_item (x ∷ xs) = option_or (last_item xs) (Some x)

abbrev pub first_item : {A : Type 0} → List A → Option A
first_item [] = None
first_item (x ∷ xs) = Some x

-- in the period of a number, of which three are before its own
abbrev pub in_period : ℕ → ℕ → Ticked → Ticked
in_period p number r = later_by (pos (number * p) -ℤ pos (3 * p)) r

-- in each of so many periods
abbrev pub in_periods : ℕ → List Ticked → ℕ → List Ticked
in_periods p regions zero = []
in_periods p regions (suc number) = in_periods p regions number ++ map (in_period p number) regions

-- What the regions of a list come to about a window: the last that counts before it and the first
-- that counts after it, how many meet it, and the last that two launches may make.
pub record AreAround (p : ℕ) (launched : Region → Side) (pair : Region → Bool) (w : Window)
    (regions : List Ticked) (all : Around) : Type 0 where
  pub last : all.last ≡ last_item (filter (λ r. counts_before launched w (region_in p r)) regions)
  pub first : all.first ≡ first_item (filter (λ r. counts_after launched w (region_in p r)) regions)
  pub met : all.met ≡ length (filter (λ r. meets w (region_in p r)) regions)
  pub two : all.two ≡ last_item (filter
      (λ r. meets w (region_in p r) && (is_open w (region_in p r) && pair (region_in p r))) regions)
  pub close_last : MayBeClose p all.last
  pub close_first : MayBeClose p all.first
  pub close_two : MayBeClose p all.two

-- ---- the slacks of windows

-- the regions of changes that come in some slots, and not in all
pub record AreChanges (p : ℕ) (ev : Events) (changes : List Ticked) : Type 0 where
  pub cyclic : IsCyclic p ev
  pub some : all_events p ev ≡ false
  pub are : changes ≡ map ticks_of_region (regions p ev)

-- The slacks of two sides, as far as arrivals have no say in it: of each whether something can
-- break it, and whether one of both is broken.
pub record AreAlike (found : Slacks) (one other : Slack) : Type 0 where
  pub before : is_free (slack_finding found.before) ≡ is_free one
  pub after : is_free (slack_finding found.after) ≡ is_free other
  pub broken : (is_broken (slack_finding found.before) || is_broken (slack_finding found.after))
      ≡ (is_broken one || is_broken other)

-- Something can break each side, and one of both is broken.
pub record BreakOne (one other : Slack) : Type 0 where
  pub before : is_free one ≡ false
  pub after : is_free other ≡ false
  pub broken : (is_broken one || is_broken other) ≡ true

abbrev pub IsBrokenByTwo : Slacks → Type 0
IsBrokenByTwo found = BreakOne (slack_finding found.before) (slack_finding found.after)

-- Where data may change in every slot: nothing if there is no window, or else no number of the
-- waves on either side.
abbrev pub AreOfWays : Bool → Slacks → Type 0
AreOfWays false found = (found.before ≡ None) × (found.after ≡ None)
AreOfWays true found = (is_starred (slack_finding found.before) ≡ true)
    × (is_starred (slack_finding found.after) ≡ true)

-- The slacks of two sides, exactly but for an exception.
pub record TellSides (p : ℕ) (except : Bool) (one other : Finding) (found : Slacks) : Type 0 where
  pub before : except ≡ false → Tells p found.before one
  pub after : except ≡ false → Tells p found.after other
  pub alike : AreAlike found one.slack other.slack

-- The slacks about a window, exactly unless two launches may make the only region that meets it.
pub record TellWindow (p : ℕ) (ev : Events) (launches : Launches) (two : Window → Region → Bool)
    (pin : ℕ) (direction : Direction)
    (w : Window) (found : Slacks) : Type 0 where
  pub before : two_in p ev two w ≡ false →
      Tells p found.before (finding_of pin direction (before_window p ev launches w))
  pub after : two_in p ev two w ≡ false →
      Tells p found.after (finding_of pin direction (after_window p ev launches w))
  pub alike : AreAlike found (before_window p ev launches w).slack
      (after_window p ev launches w).slack

-- The least slacks about windows, exactly unless two launches may make the only region that
-- meets one.
pub record TellWindows (p : ℕ) (ev : Events) (launches : Launches) (two : Window → Region → Bool)
    (pin : ℕ) (direction : Direction)
    (windows : List Window) (found : Slacks) : Type 0 where
  pub level : found.level ≡ None
  pub before : list_any (two_in p ev two) windows ≡ false →
      Tells p found.before (finding_of pin direction
      (least (map (before_window p ev launches) windows)))
  pub after : list_any (two_in p ev two) windows ≡ false →
      Tells p found.after (finding_of pin direction (least (map (after_window p ev launches) windows)))
  pub alike : AreAlike found (least (map (before_window p ev launches) windows)).slack
      (least (map (after_window p ev launches) windows)).slack

-- the windows about edges
abbrev pub windows_about : ℕ → Extent → List Ticked → List Window
windows_about p extent edges = map (λ e. window_in p (window_about e extent)) edges

abbrev pub place_in : Option Held → ℕ
place_in None = 0
place_in (Some held) = held.place

-- the slots of a wave at which something may happen, as the program has them
pub record AreSlots (p : ℕ) (ev : Events) (slots : Slots) : Type 0 where
  pub all : slots.are_all ≡ all_events p ev
  pub regions : slots.regions ≡ map ticks_of_region (regions p ev)

pub record IsSlots (p : ℕ) (slots : Slots) : Type 0 where
  pub within : All (IsInPeriod p) slots.regions
  pub few : length slots.regions ≤ 4096

-- the slacks of a watch, but for an exception
pub record TellWatch (p : ℕ) (launches : Launches) (except : Bool) (pin : ℕ) (direction : Direction)
    (watch : Watch) (found : Slacks) : Type 0 where
  pub level : found.level ≡ None
  pub before : except ≡ false → Tells p found.before
      (finding_of pin direction (finding_before p launches watch))
  pub after : except ≡ false → Tells p found.after
      (finding_of pin direction (finding_after p launches watch))
  pub alike : AreAlike found (finding_before p launches watch).slack
      (finding_after p launches watch).slack

-- The same of a change that is never to come, and of those in windows: exactly unless two
-- launches may make the only region that meets one.
pub record TellParts (p : ℕ) (launches : Launches) (two : Window → Region → Bool) (pin : ℕ)
    (direction : Direction) (watch : Watch)
    (found : Slacks) : Type 0 where
  pub level : Tells p found.level (finding_of pin direction (finding_never p watch))
  pub before : list_any (two_in p watch.changes two) watch.windows ≡ false →
      Tells p found.before (finding_of pin direction (finding_before p launches (in_windows watch)))
  pub after : list_any (two_in p watch.changes two) watch.windows ≡ false →
      Tells p found.after (finding_of pin direction (finding_after p launches (in_windows watch)))
  pub alike : AreAlike found (finding_before p launches (in_windows watch)).slack
      (finding_after p launches (in_windows watch)).slack

-- changes that are not to come at these ticks, nor in the tick beside them
abbrev pub watch_at : ℕ → Events → Events → Watch
watch_at p changes still =
    record {
      changes = changes;
      windows = map (about p (extent_of 1 0)) (regions p still);
      never = all_events p still;
    }

-- the ticks at which no step of the direction may come
abbrev pub lacking : Direction → Folds → Events
lacking d folds t = not (moves d (has (folds t)))

-- the slacks of a pin, if it is beside the marked one of an instance
pub record TellBeside (c : Circuit) (ws : Waves) (j : Instance) (marked i : ℕ)
    (found : Slacks) : Type 0 where
  pub level : is_beside j marked i ≡ true →
      Tells (period c.header) found.level (finding_of i Change (finding_pin c ws j Gate marked i))
  pub before : is_beside j marked i ≡ true → beside_by_arrivals c ws j marked i ≡ false →
      Tells (period c.header) found.before (finding_of i Change (finding_pin c ws j GateBefore marked i))
  pub after : is_beside j marked i ≡ true → beside_by_arrivals c ws j marked i ≡ false →
      Tells (period c.header) found.after (finding_of i Change (finding_pin c ws j GateAfter marked i))
  pub alike : is_beside j marked i ≡ true →
      AreAlike found (finding_pin c ws j GateBefore marked i).slack
      (finding_pin c ws j GateAfter marked i).slack
  pub none : is_beside j marked i ≡ false →
      (found.level ≡ None) × (found.before ≡ None) × (found.after ≡ None)

-- What a net's steps of a direction are held to: what it may do, and what its assertion permits.
abbrev pub steps_watch : ℕ → Folds → Folds → Direction → Watch
steps_watch p folds wide d = watch_at p (events d folds) (lacking d wide)

pub record TellDirections (p : ℕ) (folds wide : Folds) (directions : List Direction)
    (found : Slacks) : Type 0 where
  pub level : Tells p found.level (least
      (map (λ d. finding_of 0 d (finding_never p (steps_watch p folds wide d))) directions))
  pub before : Tells p found.before
      (least (map (λ d. finding_of 0 d
      (finding_before p no_launches (in_windows (steps_watch p folds wide d)))) directions))
  pub after : Tells p found.after
      (least (map (λ d. finding_of 0 d
      (finding_after p no_launches (in_windows (steps_watch p folds wide d)))) directions))

-- a step from one bit to the other that the other value lacks
abbrev pub is_step_outside : Value → Value → Bool
is_step_outside v wide =
    (has v false true && not (has wide false true))
    || (has v true false && not (has wide true false))

-- 1 is the level that the other value lacks
abbrev pub is_high_outside : Value → Value → Bool
is_high_outside v wide = has v true true && not (has wide true true)

-- A level in the first slot that is not permitted, if no step is outside: 1, if that is not.
abbrev pub IsLevelIn : (ℕ → Bool) → Option Reason → Option ℕ → Type 0
IsLevelIn high found None = found ≡ None
IsLevelIn high found (Some slot) = found ≡ Some (Level (high slot) slot)

abbrev pub IsLevelFinding : (ℕ → Bool) → Option Reason → Bool → Option ℕ → Type 0
IsLevelFinding high found true excess = found ≡ None
IsLevelFinding high found false excess = IsLevelIn high found excess

-- those of two launches, or if there are none those of regions
abbrev pub slacks_of_two : Option Slacks → Slacks → Slacks
slacks_of_two None regions = regions
slacks_of_two (Some two) regions = two

-- ---- what the program holds against something

-- The step that data is held against: for its last change the one with which a window begins, as
-- early as it may come, and for its first change the one with which it ends, as late.
abbrev pub step_held : Held → Ticks → Corner → PinEvent
step_held held w LateCorner =
    record { pin = held.clock; direction = held.opens; tick = w.first; corner = EarlyCorner }
step_held held w EarlyCorner =
    record { pin = held.clock; direction = held.shuts; tick = w.last; corner = LateCorner }

-- the edge of a clock that a window is held against at its begin, as the program counts its tick
abbrev pub edge_held : Circuit → Waves → Held → Ticks → Option (ℕ × ℤ)
edge_held c ws held w =
    option_map (finding_back (3 * period c.header))
    (edge_at_pin c ws EarlyCorner held.clock held.opens (ahead_of (period c.header) w.first))

-- ---- what is told without windows

abbrev pub are_none : Slots → Bool
are_none slots = not slots.are_all && (length slots.regions == 0)

abbrev pub same_both : Option Found → Slacks
same_both finding = record { level = None; before = finding; after = finding }

-- Where nothing changes, or nothing is to be quiet, no limit can be broken; where all slots are to
-- be quiet, or all may change, there is no number.
abbrev pub without_windows : Option Held → Direction → Slots → Slots → Option Slacks
without_windows held d changes still =
    if are_none changes || are_none still then Some (same_both None)
    else if still.are_all
    then Some (record {
      level = Some (finding_none (if is_some held then ByMark else ByAssertion) (place_in held) d);
      before = None;
      after = None;
    })
    else if changes.are_all then Some (same_both (Some (finding_none ByData (place_in held) d)))
    else None
