-- Slacks as the program has them by what it knows of arrivals: about a window, about all of them,
-- and of data that may change in every slot.
use Rattle.std.specs.Prelude.{◌≡◌, ℕ, ◌*◌, ◌^◌, nat_le, ◌==◌, Bool, true, false, not, ◌&&◌, List, [], fold, length, map, filter_map, slice_get, ℤ, unsigned_abs, if◌then◌else◌, IfSome, Option, Some, None}
use Rattle.std.specs.List.{AllByRecursion}
use Rattle.std.specs.Option.{option_and_then, option_map}
use Rattle.scald_base.specs.Time.{period}
use Rattle.element_kinds.specs.declared.form.Check.{Check}
use Rattle.element_kinds.specs.declared.form.Check.TheVariants.{SetupHold as AboutRise, RiseFall as RiseToFall, MinPulse as Widths}
use Rattle.flat_circuit.specs.declared.instance.Instance.{Instance}
use Rattle.flat_circuit.specs.Circuit.{Circuit}
use Rattle.fixpoint_engine.specs.Waves.{Waves}
use Rattle.critical_paths.specs.declared.direction.Corner.{Corner}
use Rattle.critical_paths.specs.declared.direction.Corner.TheVariants.{Late as LateCorner, Early as EarlyCorner}
use Rattle.critical_paths.specs.declared.direction.Direction.{Direction}
use Rattle.critical_paths.specs.declared.direction.Direction.TheVariants.{Rise, Change}
use Rattle.critical_paths.specs.declared.event.PinEvent.{PinEvent}
use Rattle.critical_paths.specs.declared.path.Paths.{Paths}
use Rattle.critical_paths.specs.declared.region.Region.{Region as Ticked}
use Rattle.critical_paths.specs.declared.region.Slots.{Slots}
use Rattle.critical_paths.specs.Event.{events}
use Rattle.critical_paths.specs.Reached.{KeepsArrivals}
use Rattle.critical_paths.specs.Region.{Region, regions}
use Rattle.critical_paths.specs.Views.{ticks_of_region}
use Rattle.slack_rows.specs.declared.around.Around.{Around}
use Rattle.slack_rows.specs.declared.guard.Guard.{Guard}
use Rattle.slack_rows.specs.declared.held.Held.{Held}
use Rattle.slack_rows.specs.declared.slack.Finding.{Finding as Found}
use Rattle.slack_rows.specs.declared.slack.Slacks.{Slacks}
use Rattle.slack_rows.specs.declared.window.Extent.{Extent}
use Rattle.slack_rows.specs.declared.window.Window.{Window as Ticks}
use Rattle.slack_rows.specs.Arrived.{GuardsWorkedOut, TwoWorkedOut, both_of, finding_side, two_slacks}
use Rattle.slack_rows.specs.Held.{AreAround, AreSlots, edge_at_pin, edge_held, finding_back, in_periods, place_in, side_held, slacks_of_two, step_held, two_of, without_windows}
use Rattle.slack_rows.specs.Limit.{edge_limits, has_no_window, pin_folds, rises_of, spans_of}
use Rattle.slack_rows.specs.Views.{ahead_of, closing, finding_by_region, lesser_found, window_about, window_in}
use Rattle.slack_rows.specs.Watch.{spans}
use Rattle.slack_rows.specs.Window.{extent_of}

-- nothing that could be broken
abbrev pub no_slacks : Slacks
no_slacks = record { level = None; before = None; after = None }

abbrev pub lesser_slacks : Slacks → Slacks → Slacks
lesser_slacks a b =
    record {
      level = lesser_found a.level b.level;
      before = lesser_found a.before b.before;
      after = lesser_found a.after b.after;
    }

-- ---- about a window

-- The region that two launches may make, if no other one meets the window, and what is held.
abbrev pub two_around : Option Held → Around → Option (Held × Ticked)
two_around held near = if near.met == 1 then both_of held near.two else None

abbrev pub two_by_arrivals : Circuit → Waves → Paths → Ticks → Held × Ticked → Option Slacks
two_by_arrivals c ws paths w found =
    two_slacks c paths.known.entries paths.arrivals found.0 w found.1 (edge_held c ws found.0 w)

-- of the last region that counts before it, and of the first that counts after it
abbrev pub slacks_of_regions : Option Held → Direction → Ticks → Around → Slacks
slacks_of_regions held d w near =
    record {
      level = None;
      before = option_map (finding_by_region (place_in held) d LateCorner w) near.last;
      after = option_map (finding_by_region (place_in held) d EarlyCorner w) near.first;
    }

-- Those of two launches, if arrivals tell that there are two, or else those of regions.
abbrev pub slacks_around : Circuit → Waves → Paths → Option Held → Direction → Ticks → Around →
    Slacks
slacks_around c ws paths held d w near =
    slacks_of_two (option_and_then (two_by_arrivals c ws paths w) (two_around held near))
    (slacks_of_regions held d w near)

-- the arrivals of two launches are worked out
abbrev pub MayBeTwo : Circuit → Waves → Paths → Ticks → Option (Held × Ticked) → Type 0
MayBeTwo c ws paths w None = Unit {0}
MayBeTwo c ws paths w (Some found) =
    TwoWorkedOut paths.known.entries found.0 (edge_held c ws found.0 w)

-- The slacks about a window, by the regions of changes near it and by what is known of arrivals.
pub record AreAbout (c : Circuit) (ws : Waves) (paths : Paths) (held : Option Held)
    (d : Direction) (changes : List Ticked) (w : Ticks) (found : Slacks) : Type 0 where
  pub near : Around
  pub around : AreAround (period c.header) (side_held c ws held (window_in (period c.header) w))
      (two_of c ws held (window_in (period c.header) w)) (window_in (period c.header) w)
      (in_periods (period c.header) changes 8) near
  pub known : MayBeTwo c ws paths w (two_around held near)
  pub is : found ≡ slacks_around c ws paths held d w near

-- ---- about all windows

-- The same by what was known then, which was exact if it was at first.
pub record WereAbout (c : Circuit) (ws : Waves) (first : Paths) (held : Option Held) (d : Direction)
    (changes : List Ticked) (one : Ticks × Slacks) : Type 0 where
  pub paths : Paths
  pub keeps : KeepsArrivals c ws first paths
  pub are : AreAbout c ws paths held d changes one.0 one.1

-- the least of those about some windows
pub record AreLeastAbout (c : Circuit) (ws : Waves) (first : Paths) (held : Option Held)
    (d : Direction) (changes : List Ticked) (windows : List Ticks) (found : Slacks) : Type 0 where
  pub each : List (Ticks × Slacks)
  pub windows_are : map (λ one. one.0) each ≡ windows
  pub are : AllByRecursion (WereAbout c ws first held d changes) each
  pub is : found ≡ fold (λ least one. lesser_slacks least one.1) no_slacks each

-- About slots in which nothing is to change, nor in the slot before them: without a window what
-- that comes to, and else the least about the windows.
pub record AreAtSlots (c : Circuit) (ws : Waves) (first : Paths) (held : Option Held)
    (d : Direction) (changes still : Slots) (found : Slacks) : Type 0 where
  pub without : IfSome (without_windows held d changes still) (λ told. found ≡ told)
  pub about : without_windows held d changes still ≡ None → AreLeastAbout c ws first held d
      changes.regions (map (λ e. window_about e (extent_of 1 0)) still.regions) found

-- ---- which edges windows are held against

-- a window, and the clock and the ideal edge that it is held against
abbrev pub guarded : Guard → Ticks × (ℕ × ℤ)
guarded g = (g.window, (g.net, g.ideal))

-- An edge guards a window unless it is further than any path takes.
abbrev pub if_near : ℕ × ℤ → Option (ℕ × ℤ)
if_near edge = if nat_le (unsigned_abs edge.1) (2 ^ 44) then Some edge else None

abbrev pub guard_by : Ticks → Option (ℕ × ℤ) → Option (Ticks × (ℕ × ℤ))
guard_by w edge = option_map (λ e. (w, e)) (option_and_then if_near edge)

-- the ideal edge of a clock that a step comes from, as the program counts its tick
abbrev pub edge_behind : Circuit → Waves → PinEvent → Option (ℕ × ℤ)
edge_behind c ws step =
    option_map (finding_back (3 * period c.header)) (edge_at_pin c ws step.corner step.pin
    step.direction (ahead_of (period c.header) step.tick))

-- For the data's last changes a window is held against the step with which it begins, and for its
-- first ones against that with which it ends.
abbrev pub guard_about : Circuit → Waves → Held → Corner → Ticks → Option (Ticks × (ℕ × ℤ))
guard_about c ws held corner w = guard_by w (edge_behind c ws (step_held held w corner))

-- of the windows about edges those that come from a clock
abbrev pub guards_of : Circuit → Waves → Held → Corner → Extent → List Ticked →
    List (Ticks × (ℕ × ℤ))
guards_of c ws held corner extent edges =
    filter_map (λ e. guard_about c ws held corner (window_about e extent)) edges

-- ---- data that may change in every slot

-- the least slack of one side, by the arrivals from each of those edges
pub record IsOfWays (c : Circuit) (ws : Waves) (paths : Paths) (held : Held) (corner : Corner)
    (extent : Extent) (edges : List Ticked) (side : Option Found) : Type 0 where
  pub guards : List Guard
  pub guards_are : map guarded guards ≡ guards_of c ws held corner extent edges
  pub known : GuardsWorkedOut paths.known.entries held corner guards
  pub is : side ≡ Some (finding_side c paths.known.entries paths.arrivals held corner guards)

-- the last ways before the windows, and the first ways after them
pub record AreByWays (c : Circuit) (ws : Waves) (paths : Paths) (held : Held) (extent : Extent)
    (edges : List Ticked) (found : Slacks) : Type 0 where
  pub level : found.level ≡ None
  pub before : IsOfWays c ws paths held LateCorner extent edges found.before
  pub after : IsOfWays c ws paths held EarlyCorner extent edges found.after

-- ---- about edges

-- The slacks of a pin about edges: of the regions of its changes, or of ways if these may come in
-- every slot.
pub record AreAboutEdges (c : Circuit) (ws : Waves) (first paths : Paths) (held : Held)
    (extent : Extent) (edges : List Ticked) (changes : Slots) (found : Slacks) : Type 0 where
  pub keeps : KeepsArrivals c ws first paths
  pub apart : changes.are_all ≡ false → AreLeastAbout c ws first (Some held) Change
      changes.regions (map (λ e. window_about e extent) edges) found
  pub always : changes.are_all ≡ true → (length edges == 0) ≡ false →
      AreByWays c ws paths held extent edges found

-- ---- the input of a checker

-- which edges of its clock it is held against: each rise, or each span from a rise to its last fall
abbrev pub clock_edges : Circuit → Waves → Instance → Check → List Region
clock_edges c ws j AboutRise = regions (period c.header) (events Rise (pin_folds c ws j 0))
clock_edges c ws j RiseToFall = spans (period c.header) (pin_folds c ws j 0)
clock_edges c ws j Widths = []

-- it has windows about them
abbrev pub has_windows : Circuit → Waves → Instance → Check → Bool
has_windows c ws j AboutRise =
    not (has_no_window (edge_limits j.limits)) && not (rises_of c ws j).never
has_windows c ws j RiseToFall = not (spans_of c ws j).never
has_windows c ws j Widths = false

pub record IsHeldInput (j : Instance) (check : Check) (held : Held) : Type 0 where
  pub pin : slice_get j.pins 1 ≡ Some held.pin
  pub clock : slice_get j.pins 0 ≡ Some held.clock
  pub place : held.place ≡ 1
  pub opens : held.opens ≡ Rise
  pub shuts : held.shuts ≡ closing check

-- the slacks of an input that may change, about these edges
pub record AreOfChecker (c : Circuit) (ws : Waves) (first paths : Paths) (j : Instance)
    (check : Check) (found : Slacks) : Type 0 where
  pub held : Held
  pub is_held : IsHeldInput j check held
  pub changes : Slots
  pub changes_are : AreSlots (period c.header) (events Change (pin_folds c ws j 1)) changes
  pub are : AreAboutEdges c ws first paths held (edge_limits j.limits)
      (map ticks_of_region (clock_edges c ws j check)) changes found
