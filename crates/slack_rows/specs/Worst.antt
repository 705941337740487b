-- A starred number is that of the worst of all ways: over each edge of a clock that a window is held
-- against, and each change that comes by the clock's edges, if no other edge is nearer to its launch.
use Rattle.std.specs.Prelude.{◌≡◌, ℕ, List, map, slice_get, ℤ, pos, ◌+ℤ◌, ◌-ℤ◌, int_lt, false, Option, Some, None}
use Rattle.std.specs.Option.{option_map}
use Rattle.scald_base.specs.Time.{period}
use Rattle.flat_circuit.specs.Circuit.{Circuit}
use Rattle.fixpoint_engine.specs.Waves.{Waves, target_wire}
use Rattle.critical_paths.specs.declared.arrival.Place.{Place}
use Rattle.critical_paths.specs.declared.direction.Corner.{Corner}
use Rattle.critical_paths.specs.declared.path.Paths.{Paths}
use Rattle.critical_paths.specs.declared.region.Region.{Region as Ticked}
use Rattle.critical_paths.specs.Path.{bound}
use Rattle.critical_paths.specs.Reached.{AreArrivals, IsFew, KnowsArrivals}
use Rattle.slack_rows.specs.declared.held.Held.{Held}
use Rattle.slack_rows.specs.declared.slack.Finding.{Finding as Found}
use Rattle.slack_rows.specs.declared.slack.Slack.TheVariants.{Way as NumberOfWay}
use Rattle.slack_rows.specs.declared.window.Extent.{Extent}
use Rattle.slack_rows.specs.declared.window.Window.{Window as Ticks}
use Rattle.slack_rows.specs.Arrived.{distance_of, moved_by, place_on}
use Rattle.slack_rows.specs.Sides.{IsOfWays, guards_of}
use Rattle.slack_rows.specs.Views.{spare_at}

-- When changes come to the net at a pin, by the edges of each clock: by which ideal edge, and at
-- which tick. None where a way comes from a loop.
abbrev pub Times : Type 0
Times = ℕ → Option (List (ℤ × ℤ))

-- these are the arrivals that the waves make
abbrev pub AreTimes : Circuit → Waves → Held → Corner → Times → Type 0
AreTimes c ws held corner times =
    (clock : ℕ) (some : List (ℤ × ℤ)) → times clock ≡ Some some →
    (place : Place) × ((place_on clock corner held.pin.target ≡ Some place)
    × AreArrivals c ws place some)

-- and where there are none all ways to the net cannot end
abbrev pub EndNowhere : Circuit → Waves → Held → Corner → ℕ → Times → Type 0
EndNowhere c ws held corner clock times =
    (place : Place) → times clock ≡ None → place_on clock corner held.pin.target ≡ Some place →
    IsFew c ws place → ⊥

-- An edge of a clock by the window that is held against it, and what comes to the pin by an edge of
-- the clock to whose launch no other of these edges is nearer; with the ticks that it has to spare.
pub record IsWay (c : Circuit) (ws : Waves) (held : Held) (corner : Corner)
    (guards : List (Ticks × (ℕ × ℤ))) (times : Times) (spare : ℤ) : Type 0 where
  pub window : Ticks
  pub clock : ℕ
  pub edge : ℤ
  pub guard_at : ℕ
  pub guard : slice_get guards guard_at ≡ Some (window, (clock, edge))
  pub some : List (ℤ × ℤ)
  pub are : times clock ≡ Some some
  pub launch : ℤ
  pub tick : ℤ
  pub time_at : ℕ
  pub time : slice_get some time_at ≡ Some (launch, tick)
  pub nearest : (k : ℕ) (w : Ticks) (other : ℤ) → slice_get guards k ≡ Some (w, (clock, other)) →
      int_lt (distance_of corner (period c.header) launch other)
      (distance_of corner (period c.header) launch edge) ≡ false
  pub is : spare ≡ spare_at corner window
      ((tick +ℤ pos (bound corner (target_wire c.nets held.pin.target)))
      -ℤ moved_by corner (period c.header) launch edge)

-- of all of them none has less to spare than one that has this number
pub record IsWorst (c : Circuit) (ws : Waves) (held : Held) (corner : Corner) (extent : Extent)
    (edges : List Ticked) (number : ℤ) : Type 0 where
  pub times : Times
  pub are : AreTimes c ws held corner times
  pub ended : (k : ℕ) (w : Ticks) (clock : ℕ) (edge : ℤ) →
      slice_get (guards_of c ws held corner extent edges) k ≡ Some (w, (clock, edge)) →
      EndNowhere c ws held corner clock times
  pub of : IsWay c ws held corner (guards_of c ws held corner extent edges) times number
  pub least : (other : ℤ) →
      IsWay c ws held corner (guards_of c ws held corner extent edges) times other →
      int_lt other number ≡ false

-- The number of a side of data that may change in every slot, by paths that know all arrivals.
abbrev pub StarredIsWorst : Type 0
StarredIsWorst =
    (c : Circuit) (ws : Waves) (paths : Paths) (held : Held) (corner : Corner) (extent : Extent)
    (edges : List Ticked) (found : Found) (number : ℤ) → KnowsArrivals c ws paths →
    IsOfWays c ws paths held corner extent edges (Some found) → found.slack ≡ NumberOfWay number →
    IsWorst c ws held corner extent edges number
