-- COMMON: checkers whose input is launched by their own clock, which may be late as a whole.
use Rattle.std.specs.Prelude.{◌≡◌, ℕ, ◌<◌, nat_lt, Bool, List, [], ◌∷◌, length, map, codes, decimal, max, slice_get, slice_index_or, if◌then◌else◌, Option, Some, None}
use Rattle.std.specs.List.{flat_map, range_with_len}
use Rattle.macro_expander.specs.Primitives.{greatest}
use Rattle.flat_circuit.specs.declared.instance.Instance.{Instance}
use Rattle.flat_circuit.specs.Circuit.{Circuit}
use Rattle.step_values.specs.declared.value.Value.{Value}
use Rattle.skew_algebra.specs.Wave.{Wave}
use Rattle.fixpoint_engine.specs.Waves.{Waves, waves_of}
use Rattle.timing_analysis.specs.Case.{Case}
use Rattle.listing.specs.Text.{line}
use Rattle.listing.specs.Names.{instance_text, net_text}
use Rattle.drawing_notes.specs.declared.doubts.Doubt.{Doubt}
use Rattle.drawing_notes.specs.Doubts.{doubt_at}
use Rattle.drawing_notes.specs.Pins.{clock_of, pin_net}

-- ---- skews

abbrev pub skew_in : Waves → ℕ → ℕ
skew_in ws i = (ws i).skew

-- the same by a list, which has none past its end
abbrev pub skew_at : List ℕ → ℕ → ℕ
skew_at skews i = slice_index_or skews i 0

-- by one case more
pub record AreRaised (waves : List (Wave Value)) (old new : List ℕ) : Type 0 where
  pub long : length new ≡ length old
  pub are : (i : ℕ) → skew_at new i ≡ max (skew_at old i) (waves_of waves i).skew

-- the skew of the clock
abbrev pub skew_of : (ℕ → ℕ) → Option Doubt → ℕ
skew_of skew None = 0
skew_of skew (Some d) = skew d.clock

-- the same, if it launches what comes at the input
abbrev pub ticks_of : (ℕ → ℕ) → (ℕ → ℕ → Bool) → Option Doubt → ℕ
ticks_of skew launched None = 0
ticks_of skew launched (Some d) = if launched d.clock d.input then skew d.clock else 0

-- that of a checker in one case
abbrev pub ticks_in : Circuit → Waves → (ℕ → ℕ → Bool) → ℕ → ℕ
ticks_in c ws launched k = ticks_of (skew_in ws) launched (doubt_at c (skew_in ws) k)

-- the same by whether its clock launches it
abbrev pub ticks_by : Circuit → (ℕ → ℕ) → ℕ → Bool → ℕ
ticks_by c skew k is_common = if is_common then skew_of skew (doubt_at c skew k) else 0

-- by one case more
abbrev pub AreRaisedTicks : Circuit → Waves → (ℕ → ℕ → Bool) → List ℕ → List ℕ → Type 0
AreRaisedTicks c ws launched old new = (length new ≡ length old)
    × ((k : ℕ) → k < length c.instances →
    skew_at new k ≡ max (skew_at old k) (ticks_in c ws launched k))

-- the greatest of all cases in which its clock launches it
abbrev pub common_ticks : Circuit → (Waves → ℕ → ℕ → Bool) → List Case → ℕ → ℕ
common_ticks c launched cases k =
    greatest (map (λ (case : Case). ticks_in c case.waves (launched case.waves) k) cases)

-- ---- notes

unfoldable pub common_line : Circuit → ℕ → ℕ → ℕ → List ℕ
common_line c k clock ticks = line (
    codes "NOTE COMMON " ∷ instance_text c k ∷ codes " " ∷ net_text c clock ∷ codes " TICKS "
    ∷ decimal ticks ∷ [])

-- a clock, on a net or on none
abbrev pub common_on : Circuit → ℕ → ℕ → Option ℕ → List (List ℕ)
common_on c k ticks None = []
common_on c k ticks (Some clock) = if nat_lt 0 ticks then common_line c k clock ticks ∷ [] else []

abbrev pub common_of : Circuit → ℕ → ℕ → Option Instance → List (List ℕ)
common_of c k ticks None = []
common_of c k ticks (Some j) = common_on c k ticks (pin_net (clock_of j))

abbrev pub common_at : Circuit → (ℕ → ℕ) → ℕ → List (List ℕ)
common_at c ticks k = common_of c k (ticks k) (slice_get c.instances k)

-- in the order of expansion, by the ticks of each checker
abbrev pub common : Circuit → (ℕ → ℕ) → List (List ℕ)
common c ticks = flat_map (common_at c ticks) (range_with_len 0 (length c.instances))
