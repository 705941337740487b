-- What a row shows of its wave.
use Rattle.std.specs.Prelude.{◌≡◌, ◌≢◌, ℕ, ◌+◌, ◌-◌, ◌*◌, ◌%◌, ◌<◌, ◌≤◌, ◌==◌, not, Bool, List, [], ◌∷◌, length, map, codes, slice_index_or, if◌then◌else◌}
use Rattle.std.specs.List.{flat_map, list_any, range_with_len}
use Rattle.step_values.specs.declared.value.Value.{Value}
use Rattle.step_values.specs.declared.value.Value.TheVariants.{C, S, U}
use Rattle.step_values.specs.Steps.{is_quiet, letter_of}
use Rattle.step_values.specs.Cell.{values}
use Rattle.skew_algebra.specs.Wave.{Wave, folded}
use Rattle.listing.specs.Run.{Run, runs}
use Rattle.draw_report.specs.declared.run.Placed.{Placed}
use Rattle.draw_report.specs.declared.shape.Stroke.{Stroke}
use Rattle.draw_report.specs.declared.view.View.{View}
use Rattle.draw_report.specs.Element.{Byte, Chars, Node, Number, Path, Word, empty}
use Rattle.draw_report.specs.Shape.{shade, shape}
use Rattle.draw_report.specs.View.{scale}

-- ---- a wave on a time line without end

abbrev pub cell_at : List Value → ℕ → Value
cell_at cells slot = slice_index_or cells (slot % length cells) U

-- so many slots from one on
abbrev pub window : List Value → ℕ → ℕ → List Value
window cells from count = map (λ j. cell_at cells (from + j)) (range_with_len 0 count)

-- The slots from one up to another, which comes before a limit or at it, have one value, and that
-- has another before the limit.
pub record IsRunEnd (cells : List Value) (slot limit end : ℕ) : Type 0 where
  pub later : slot < end
  pub within : end ≤ limit
  pub same : (k : ℕ) → slot ≤ k → k < end → cell_at cells k ≡ cell_at cells slot
  pub other : end < limit → cell_at cells end ≢ cell_at cells slot

-- ---- runs, each where it begins in the view

abbrev pub placed : ℕ → List Run → List Placed
placed from [] = []
placed from (r ∷ rs) =
    record { value = r.value; from = from; width = r.width } ∷ placed (from + r.width) rs

-- the runs of so many slots from one on
abbrev pub runs_from : List Value → ℕ → ℕ → List Placed
runs_from cells from count = placed 0 (runs (window cells from count))

-- where a run is drawn, where a slot is so wide
abbrev pub stroke : ℕ → Placed → Stroke
stroke k p = record { x = k * p.from; width = k * p.width; is_single = p.width == 1 }

-- a run in words
abbrev pub run_words : Placed → List Word
run_words p = Chars (codes " ") ∷ Byte (letter_of p.value) ∷ Chars (codes ":") ∷ Number p.width ∷ []

-- ---- elements

abbrev pub path : List Word → List Word → Node
path class data_ = empty Path (class ∷ data_ ∷ [])

abbrev pub run_path : ℕ → Placed → Node
run_path k p =
    path (Chars (codes "v") ∷ Byte (letter_of p.value) ∷ []) (shape p.value (stroke k p))

-- the wave as it is, earliest: a path for each run
abbrev pub wave_paths : View → List Value → List Node
wave_paths v cells = map (run_path (scale v)) (runs_from cells v.first v.count)

-- ---- with a skew

abbrev pub is_busy : Placed → Bool
is_busy p = not (is_quiet p.value)

-- one path of what is drawn of the runs that may change, if there are some
abbrev pub busy_path : List ℕ → (Placed → List Word) → List Placed → List Node
busy_path class words_of ps =
    if list_any is_busy ps then path (Chars class ∷ []) (flat_map words_of ps) ∷ [] else []

-- the shape of a run that may change
abbrev pub late_words : ℕ → Placed → List Word
late_words k p = if is_busy p then shape p.value (stroke k p) else []

-- the changes as late as they may be: those of the slots so many earlier
abbrev pub late_paths : View → Wave Value → List Node
late_paths v w =
    busy_path (codes "late") (late_words (scale v))
    (runs_from w.cells (v.first + (length w.cells - w.skew)) v.count)

-- whether a slot of the wave's fold may step, as a value
abbrev pub step_in : Value → Value
step_in v = if is_quiet v then S else C

-- in which slots the wave may step, however late it comes
abbrev pub steps_of : Wave Value → List Value
steps_of w = map step_in (folded values w)

abbrev pub step_words : ℕ → Placed → List Word
step_words k p = if is_busy p then shade (stroke k p) else []

abbrev pub shaded_paths : View → Wave Value → List Node
shaded_paths v w =
    busy_path (codes "sm") (step_words (scale v)) (runs_from (steps_of w) v.first v.count)
