-- Paths between nets: through gates and change functions alone, round loops, and from storage on.
use Rattle.std.specs.Prelude.{◌≡◌, ◌↔◌, ℕ, ◌+◌, ◌<◌, ◌≤◌, Bool, true, false, ◌&&◌, List, Option, Some, None, slice_get, ◌⊎◌}
use Rattle.std.specs.List.{Contains}
use Rattle.flat_circuit.specs.declared.instance.Pin.{Pin}
use Rattle.flat_circuit.specs.declared.instance.Instance.{Instance}
use Rattle.flat_circuit.specs.Circuit.{Circuit, driver, driver_at, wire_at}
use Rattle.flat_circuit.specs.Instances.{is_on}
use Rattle.flat_circuit.specs.Loop.{Reaches}
use Rattle.fixpoint_engine.specs.Waves.{Waves}
use Rattle.timing_analysis.specs.Case.{Case}
use Rattle.drawing_notes.specs.declared.launched.Arrival.{Arrival}
use Rattle.drawing_notes.specs.Passing.{delay_to, is_open, is_passable, makes, opens_on}
use Rattle.drawing_notes.specs.Pins.{is_storage, passes}
use Rattle.drawing_notes.specs.Search.{IsFound, is_clocked_by}
use Rattle.drawing_omissions.specs.Read.{has_pin_on}

-- ---- steps

-- a gate or a change function that has a pin on the net
abbrev pub passes_on : ℕ → Option Instance → Bool
passes_on i None = false
passes_on i (Some j) = passes j.kind && has_pin_on i j

-- what drives the second net passes on what the first one does
abbrev pub leads : Circuit → ℕ → ℕ → Bool
leads c from net = passes_on from (driver c net)

abbrev pub Leads : Circuit → ℕ → ℕ → Type 0
Leads c from net = leads c from net ≡ true

-- ---- loops

-- Each of the two nets is reached from the other; a net and itself, if it is reached from
-- itself.
pub record AreTogether (c : Circuit) (i j : ℕ) : Type 0 where
  pub there : Reaches (Leads c) i j
  pub back : Reaches (Leads c) j i

-- two nets are on one loop exactly if this says so
abbrev pub TellsLoops : Circuit → (ℕ → ℕ → Bool) → Type 0
TellsLoops c together = (i j : ℕ) → (together i j ≡ true) ↔ AreTogether c i j

-- a net is on a loop
abbrev pub is_looped : (ℕ → ℕ → Bool) → ℕ → Bool
is_looped together i = together i i

-- ---- from storage on, in a case

abbrev pub greatest_delay : Option Instance → ℕ
greatest_delay None = 0
greatest_delay (Some j) = j.delay.max

abbrev pub is_kept : Option Instance → Bool
is_kept None = false
is_kept (Some j) = is_storage j.kind

abbrev pub pin_makes : Circuit → Waves → ℕ → Bool → Bool → Instance → ℕ → Option Pin → Bool
pin_makes c ws from before rise j place None = false
pin_makes c ws from before rise j place (Some p) =
    is_on from p.target && (is_open c ws j place p && makes j place p before rise)

-- The open pin at a place of a gate or a change function makes of a rise or a fall of the net this
-- change of what it drives.
abbrev pub makes_of : Circuit → Waves → ℕ → Bool → Bool → ℕ → Option Instance → Bool
makes_of c ws from before rise place None = false
makes_of c ws from before rise place (Some j) =
    passes j.kind && pin_makes c ws from before rise j place (slice_get j.pins place)

abbrev pub delay_of : Bool → Option Instance → ℕ
delay_of rise None = 0
delay_of rise (Some j) = delay_to rise j

-- A change at the clock of storage makes a net rise, or fall, after so many ticks at most along a
-- path: the storage's greatest delay, and the greatest of each wire, gate and change function. The
-- path passes nets alone that are on no loop and may change in these waves, and open pins.
pub data Launches (c : Circuit) (looped : ℕ → Bool) (ws : Waves) (storage : ℕ) :
    Bool → ℕ → ℕ → Type 0 where
  Stored : {rise : Bool} {net : ℕ} → driver_at c.nets net ≡ Some storage →
      is_kept (driver c net) ≡ true → is_passable c looped ws net ≡ true →
      Launches c looped ws storage rise net (greatest_delay (driver c net))
  Passed : (place : ℕ) {before rise : Bool} {from net ticks : ℕ} →
      Launches c looped ws storage before from ticks →
      makes_of c ws from before rise place (driver c net) ≡ true →
      is_passable c looped ws net ≡ true →
      Launches c looped ws storage rise net (ticks + (wire_at c.nets from).max
      + delay_of rise (driver c net))

-- ---- the latest

-- Of all ticks, and the storage that they are counted from, none are more, and none that are as
-- many are counted from earlier storage.
pub record IsLatest (Comes : ℕ → ℕ → Type 0) (a : Arrival) : Type 0 where
  pub comes : Comes a.storage a.ticks
  pub latest : (storage ticks : ℕ) → Comes storage ticks →
      (ticks < a.ticks) ⊎ ((ticks ≡ a.ticks) × (a.storage ≤ storage))

-- the latest, if there are any
abbrev pub AreLatest : (ℕ → ℕ → Type 0) → Option Arrival → Type 0
AreLatest Comes None = (storage ticks : ℕ) → ¬ Comes storage ticks
AreLatest Comes (Some a) = IsLatest Comes a

-- in some case, rising or falling
pub record Comes (c : Circuit) (looped : ℕ → Bool) (cases : List Case) (net storage ticks : ℕ) :
    Type 0 where
  pub case : Case
  pub listed : Contains cases case
  pub rise : Bool
  pub launches : Launches c looped case.waves storage rise net ticks

-- when what storage launches comes at each net at the latest
abbrev pub TellsArrivals : Circuit → (ℕ → Bool) → List Case → (ℕ → Option Arrival) → Type 0
TellsArrivals c looped cases arrival =
    (net : ℕ) → AreLatest (Comes c looped cases net) (arrival net)

-- ---- from one clock on, in a case

-- what drives the second net has an open pin on the first one
abbrev pub leads_in : Circuit → Waves → ℕ → ℕ → Bool
leads_in c ws from net = opens_on c ws from (driver c net)

-- what storage drives whose clock or enable is on the net
abbrev pub is_started : Circuit → (ℕ → Bool) → Waves → ℕ → ℕ → Bool
is_started c looped ws clock net =
    is_passable c looped ws net && is_clocked_by clock (driver c net)

-- A path, of such nets and pins as above, leads to a net from storage whose clock or enable is on
-- the first one.
abbrev pub TellsLaunches : Circuit → (ℕ → Bool) → Waves → (ℕ → ℕ → Bool) → Type 0
TellsLaunches c looped ws launched =
    (clock : ℕ) → IsFound (leads_in c ws) (is_passable c looped ws) (is_started c looped ws clock)
    (launched clock)
