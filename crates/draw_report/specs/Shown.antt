-- What a reader of a picture sees in a row: the paths of its runs, read back, spell the wave, and a
-- slot is shaded exactly where the wave may step.
use Rattle.std.specs.Prelude.{◌≡◌, ℕ, ◌+◌, ◌/◌, ◌<◌, ◌≤◌, ◌↔◌, ◌==◌, ◌||◌, not, IsTrue, List, [], ◌∷◌, length, map, replicate, if◌then◌else◌}
use Rattle.std.specs.List.{Contains, flat_map, take_while}
use Rattle.scald_base.specs.Word.{is_digit}
use Rattle.scald_lex.specs.Bytes.{value_of}
use Rattle.step_values.specs.declared.value.Value.{Value}
use Rattle.step_values.specs.declared.value.Value.TheVariants.{Zero, One, S, C, R, F, U}
use Rattle.step_values.specs.Steps.{is_quiet}
use Rattle.step_values.specs.Cell.{values}
use Rattle.skew_algebra.specs.Wave.{Wave, folded}
use Rattle.draw_report.specs.declared.run.Placed.{Placed}
use Rattle.draw_report.specs.declared.view.View.{View}
use Rattle.draw_report.specs.Element.{tree_of}
use Rattle.draw_report.specs.View.{IsView, scale}
use Rattle.draw_report.specs.Wave.{cell_at, is_busy, runs_from, steps_of, wave_paths, window}
use Rattle.draw_report.specs.Xml.{Attribute, Bytes, Tag, Tree}

-- ---- a path, read back

-- the value of a class
abbrev pub value_of_letter : ℕ → Value
value_of_letter b =
    if b == 48 then Zero
    else if b == 49 then One
    else if b == 83 then S
    else if b == 67 then C
    else if b == 82 then R
    else if b == 70 then F
    else U

abbrev pub value_of_class : List ℕ → Value
value_of_class [] = U
value_of_class (v ∷ []) = U
value_of_class (v ∷ letter ∷ rest) = value_of_letter letter

-- how far a line goes to the side: the number after the first `h` or `l` of a path's data
abbrev pub moved_by : List ℕ → ℕ
moved_by [] = 0
moved_by (b ∷ bs) =
    if (b == 104) || (b == 108) then value_of (take_while is_digit bs) else moved_by bs

-- what a path shows, where a slot is so wide: its class, and its data
abbrev pub cells_of : ℕ → List Attribute → List Value
cells_of k [] = []
cells_of k (class ∷ []) = []
cells_of k (class ∷ data_ ∷ others) =
    replicate (moved_by data_.value / k) (value_of_class class.value)

abbrev pub shown_by : ℕ → Tree → List Value
shown_by k (Tag tag attributes within) = cells_of k attributes
shown_by k (Bytes bytes) = []

-- ---- laws

-- The paths of a row spell its wave, slot by slot: rows with the same paths have the same waves
-- there.
abbrev pub RowShowsWave : Type 0
RowShowsWave =
    (v : View) (cells : List Value) → IsView v →
    flat_map (shown_by (scale v)) (map tree_of (wave_paths v cells)) ≡ window cells v.first v.count

-- the slot is in a run that is shaded
pub record IsShaded (v : View) (w : Wave Value) (slot : ℕ) : Type 0 where
  pub run : Placed
  pub drawn : Contains (runs_from (steps_of w) v.first v.count) run
  pub busy : IsTrue (is_busy run)
  pub begun : run.from ≤ slot
  pub ends : slot < run.from + run.width

-- A slot of the view is shaded exactly where the wave may step in it, however late it comes.
abbrev pub ShadesSteps : Type 0
ShadesSteps =
    (v : View) (w : Wave Value) (slot : ℕ) → 0 < length w.cells → slot < v.count →
    (IsTrue (not (is_quiet (cell_at (folded values w) (v.first + slot)))) ↔ IsShaded v w slot)
