-- Checkers whose clock may be late as a whole, and which of them are launched by it.
use Rattle.std.specs.Prelude.{◌≡◌, ◌↔◌, ℕ, ◌<◌, nat_lt, Bool, false, ◌&&◌, List, [], ◌∷◌, length, slice_get, if◌then◌else◌, Option, Some, None}
use Rattle.std.specs.List.{Contains}
use Rattle.element_kinds.specs.Kinds.{checks_points}
use Rattle.flat_circuit.specs.declared.instance.Instance.{Instance}
use Rattle.flat_circuit.specs.Circuit.{Circuit}
use Rattle.fixpoint_engine.specs.Settled.{marked_in}
use Rattle.fixpoint_engine.specs.Worklist.{drives_in}
use Rattle.fixpoint_engine.specs.Waves.{Waves}
use Rattle.drawing_notes.specs.Passing.{is_passable}
use Rattle.drawing_notes.specs.Paths.{TellsLaunches}
use Rattle.drawing_notes.specs.Pins.{clock_of, input_of, pin_net}
use Rattle.drawing_notes.specs.Search.{is_clocked_by}
use Rattle.drawing_notes.specs.declared.doubts.Doubt.{Doubt}

-- ---- checkers

-- a clock and an input that are both on nets, if the wave of the clock has a skew
abbrev pub doubt_on : (ℕ → ℕ) → ℕ → Option ℕ → Option ℕ → Option Doubt
doubt_on skew k (Some clock) (Some input) =
    if nat_lt 0 (skew clock)
    then Some (record { checker = k; clock = clock; input = input })
    else None
doubt_on skew k (Some clock) None = None
doubt_on skew k None input = None

abbrev pub doubt_of : (ℕ → ℕ) → ℕ → Option Instance → Option Doubt
doubt_of skew k None = None
doubt_of skew k (Some j) =
    if checks_points j.kind
    then doubt_on skew k (pin_net (clock_of j)) (pin_net (input_of j))
    else None

abbrev pub doubt_at : Circuit → (ℕ → ℕ) → ℕ → Option Doubt
doubt_at c skew k = doubt_of skew k (slice_get c.instances k)

abbrev pub if_some : Option Doubt → List Doubt
if_some None = []
if_some (Some d) = d ∷ []

-- all of them, in whatever order
abbrev pub AreDoubts : Circuit → (ℕ → ℕ) → List Doubt → Type 0
AreDoubts c skew ds = (d : Doubt) → Contains ds d ↔ (doubt_at c skew d.checker ≡ Some d)

-- ---- what their clocks launch

-- what storage drives whose clock or enable is on a net
abbrev pub launches_to : ℕ → Option Instance → ℕ → Bool
launches_to clock None i = false
launches_to clock (Some j) i = is_clocked_by clock (Some j) && drives_in j.out i

-- the nets that pass something on
pub record ArePassable (c : Circuit) (looped : ℕ → Bool) (ws : Waves)
    (set : List Bool) : Type 0 where
  pub each_net : length set ≡ length c.nets
  pub are : (i : ℕ) → marked_in set i ≡ is_passable c looped ws i

-- exactly what the clock launches was found
abbrev pub IsLaunched : Circuit → (ℕ → Bool) → Waves → ℕ → List Bool → Type 0
IsLaunched c looped ws clock marks =
    (launched : ℕ → ℕ → Bool) → TellsLaunches c looped ws launched →
    (net : ℕ) → launched clock net ≡ marked_in marks net

-- what the last search was for was found
abbrev pub WasFound : Circuit → (ℕ → Bool) → Waves → Option ℕ → List Bool → Type 0
WasFound c looped ws last marks =
    (clock : ℕ) → last ≡ Some clock → IsLaunched c looped ws clock marks

-- what the clock launches comes at the input
abbrev pub is_common_by : (ℕ → ℕ → Bool) → Option Doubt → Bool
is_common_by launched None = false
is_common_by launched (Some d) = launched d.clock d.input

abbrev pub AreCommon : Circuit → (ℕ → ℕ → Bool) → (ℕ → ℕ) → List Bool → Type 0
AreCommon c launched skew marks =
    (k : ℕ) → k < length c.instances → marked_in marks k ≡ is_common_by launched (doubt_at c skew k)
