-- Runs: a cell, and how many slots in a row have it. A list of runs stands for a list of cells.
use Rattle.std.specs.Prelude.{◌≡◌, ◌≢◌, ◌<◌, ◌++◌, List, [], ◌∷◌, replicate, ⊤}
use Rattle.std.specs.Coded.{×_prop, →_prop, Unit-prop, le_prop}
use Rattle.run_wave.specs.declared.run.Run.{Run}

-- the cells of the runs, slot by slot
abbrev pub cells_of : {T : Type 0} → List (Run T) → List T
cells_of [] = []
cells_of (r ∷ rs) = replicate r.width r.cell ++ cells_of rs

-- the first of the runs, if there is one, has another cell
abbrev pub BeginsWithout : {T : Type 0} → T → List (Run T) → Type 0
BeginsWithout c [] = ⊤
BeginsWithout c (r ∷ rs) = c ≢ r.cell

-- No run is empty, and its cell is not that of the run after it: so a list of cells has one list of
-- runs.
abbrev pub IsRuns : {T : Type 0} → List (Run T) → Type 0
IsRuns [] = ⊤
IsRuns (r ∷ rs) = (0 < r.width) × (BeginsWithout r.cell rs × IsRuns rs)

-- the last of the runs, if there is one, has this cell
abbrev pub EndsWith : {T : Type 0} → List (Run T) → T → Type 0
EndsWith [] c = ⊥
EndsWith (r ∷ []) c = r.cell ≡ c
EndsWith (r ∷ s ∷ rs) c = EndsWith (s ∷ rs) c

-- ---- a list of runs is of that kind in one way at most

BeginsWithout_prop : {T : Type 0} (c : T) (rs : List (Run T)) → IsProp (BeginsWithout c rs)
BeginsWithout_prop c [] = Unit-prop
BeginsWithout_prop c (r ∷ rs) = →_prop (λ x y. absurd x)

pub IsRuns_prop : {T : Type 0} (rs : List (Run T)) → IsProp (IsRuns rs)
IsRuns_prop [] = Unit-prop
IsRuns_prop (r ∷ rs) = ×_prop le_prop (×_prop (BeginsWithout_prop r.cell rs) (IsRuns_prop rs))
