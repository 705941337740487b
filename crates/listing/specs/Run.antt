-- Runs of equal values.
use Rattle.std.specs.Prelude.{◌≡◌, ◌≢◌, ℕ, suc, ◌≤◌, List, [], ◌∷◌, if◌then◌else◌, replicate, codes, decimal, ⊤}
use Rattle.std.specs.List.{All, concat, flat_map}
use Rattle.step_values.specs.declared.value.Value.{Value}
use Rattle.step_values.specs.Steps.{letter_of}
use Rattle.step_values.specs.Cell.{same}

-- a value, and in how many slots it stands side by side
pub record Run : Type 0 where
  pub value : Value
  pub width : ℕ

-- a slot more, in front
abbrev pub lengthened : Value → List Run → List Run
lengthened v [] = record { value = v; width = 1 } ∷ []
lengthened v (r ∷ rs) =
    if same v r.value then record { value = v; width = suc r.width } ∷ rs
    else record { value = v; width = 1 } ∷ r ∷ rs

-- the runs of the slots of a period, from slot 0 to the period's end
abbrev pub runs : List Value → List Run
runs [] = []
runs (v ∷ vs) = lengthened v (runs vs)

abbrev pub run_text : Run → List ℕ
run_text r = concat (codes " " ∷ (letter_of r.value ∷ []) ∷ codes ":" ∷ decimal r.width ∷ [])

abbrev pub runs_text : List Value → List ℕ
runs_text cells = flat_map run_text (runs cells)

-- ---- what runs are

abbrev pub spelled : List Run → List Value
spelled rs = flat_map (λ (r : Run). replicate r.width r.value) rs

-- neighbours differ
abbrev pub Differ : List Run → Type 0
Differ [] = ⊤
Differ (r ∷ []) = ⊤
Differ (r ∷ q ∷ rs) = (r.value ≢ q.value) × Differ (q ∷ rs)

-- The runs have the slots that the list has, each run at least one, and neighbours have different
-- values: so no run can be made longer.
pub record AreRuns (cells : List Value) (rs : List Run) : Type 0 where
  pub spell : spelled rs ≡ cells
  pub wide : All (λ (r : Run). 1 ≤ r.width) rs
  pub apart : Differ rs
