-- The waves of several pins meet in an element. If at most one of them moves, its skew is kept
-- beside the slots; if more do, each is folded first, since each may be late by its own amount.
use Rattle.std.specs.Prelude.{◌≡◌, ℕ, not, All, List, [], ◌∷◌, length, map, filter, Option, Some, None}
use Rattle.wave_core.specs.Cell.{Cells}
use Rattle.wave_core.specs.Slots.{slots}
use Rattle.skew_algebra.specs.Wave.{Wave, skewed, fold, cell_at, is_steady}

-- the cells of the waves in a slot
abbrev pub cells_in : {T : Type 0} → Cells T → List (Wave T) → ℕ → List T
cells_in k waves slot = map (λ (w : Wave _). cell_at k w.cells slot) waves

-- what each may hold in a slot, however late it comes
abbrev pub folds_in : {T : Type 0} → Cells T → List (Wave T) → ℕ → List T
folds_in k waves slot = map (λ w. fold k w slot) waves

-- the waves that may change in some slot
abbrev pub movers : {T : Type 0} → Cells T → List (Wave T) → List (Wave T)
movers k waves = filter (λ w. not (is_steady k w.cells)) waves

-- The skew that is kept: that of the one wave that moves, and none if no wave does. If more
-- move there is no one skew.
abbrev pub kept_skew : {T : Type 0} → List (Wave T) → Option ℕ
kept_skew [] = Some 0
kept_skew (w ∷ []) = Some w.skew
kept_skew (w ∷ more) = None

-- the period, which is that of each of them
abbrev pub period_of : {T : Type 0} → List (Wave T) → ℕ
period_of [] = 0
period_of (w ∷ waves) = length w.cells

abbrev pub HaveOnePeriod : {T : Type 0} → List (Wave T) → Type 0
HaveOnePeriod waves = All (λ w. length w.cells ≡ period_of waves) waves

abbrev pub meeting_by : {T : Type 0} → Cells T → (List T → T) → List (Wave T) → Option ℕ → Wave T
meeting_by k image waves (Some skew) =
    skewed (slots (period_of waves) (λ p. image (cells_in k waves p))) skew
meeting_by k image waves None = skewed (slots (period_of waves) (λ p. image (folds_in k waves p))) 0

-- what an element makes of its pins' waves, if the image gives the cell that it makes of a cell
-- for each pin
unfoldable pub meeting : {T : Type 0} → Cells T → (List T → T) → List (Wave T) → Wave T
meeting k image waves = meeting_by k image waves (kept_skew (movers k waves))
