-- Waves with a skew: their folds, their normal form, and how they move.
use Rattle.std.specs.Prelude.{◌≡◌, ℕ, ◌+◌, ◌-◌, ◌<◌, Bool, true, List, length, map, min, slice_index_or, if◌then◌else◌}
use Rattle.std.specs.List.{list_all}
use Rattle.scald_base.specs.Time.{Bounds}
use Rattle.wave_core.specs.Cell.{Cells}
use Rattle.wave_core.specs.Slots.{slots, later, join_to, fold_at, folded as folded_cells}

-- a cell for each slot of the period, and the most ticks by which the whole may be late
pub record Wave (T : Type 0) : Type 0 where
  pub cells : List T
  pub skew : ℕ

abbrev pub skewed : {T : Type 0} → List T → ℕ → Wave T
skewed cells skew = record { cells = cells; skew = skew }

-- what a slot may hold, whatever the offset
abbrev pub fold : {T : Type 0} → Cells T → Wave T → ℕ → T
fold k w p = fold_at k w.cells w.skew p

-- that in each slot
abbrev pub folded : {T : Type 0} → Cells T → Wave T → List T
folded k w = folded_cells k w.cells w.skew

-- every slot is quiet
abbrev pub is_steady : {T : Type 0} → Cells T → List T → Bool
is_steady k cells = list_all k.quiet cells

-- the cell of a slot
abbrev pub cell_at : {T : Type 0} → Cells T → List T → ℕ → T
cell_at k cells p = slice_index_or cells p k.any

-- every slot has the cell of the first
abbrev pub all_equal : {T : Type 0} → Cells T → List T → Bool
all_equal k cells = list_all (k.same (cell_at k cells 0)) cells

-- the join of all slots
abbrev pub joined : {T : Type 0} → Cells T → List T → T
joined k cells = join_to k (cell_at k cells) (length cells - 1)

-- A steady wave has the join of its slots in each of them; a wave of one cell has no skew; and no
-- skew reaches a period.
unfoldable pub normal : {T : Type 0} → Cells T → Wave T → Wave T
normal k w =
    if is_steady k w.cells
    then record { cells = slots (length w.cells) (λ p. joined k w.cells); skew = 0 }
    else record {
      cells = w.cells;
      skew = if all_equal k w.cells then 0
          else min w.skew (length w.cells - 1);
    }

-- the wave is in normal form
pub record IsNormal {T : Type 0} (k : Cells T) (w : Wave T) : Type 0 where
  pub steady : is_steady k w.cells ≡ true → all_equal k w.cells ≡ true
  pub equal : all_equal k w.cells ≡ true → w.skew ≡ 0
  pub short : w.skew < length w.cells

-- late by a delay within the bounds
unfoldable pub moved : {T : Type 0} → Cells T → Wave T → Bounds → Wave T
moved k w d = normal k (record { cells = later k w.cells d.min; skew = w.skew + (d.max - d.min) })

-- the complement
abbrev pub flipped : {T : Type 0} → Cells T → Wave T → Wave T
flipped k w = record { cells = map k.flip w.cells; skew = w.skew }
