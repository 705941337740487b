-- What a wave feeds to a hasher: its skew, and one write for each run of equal cells.
use Rattle.std.specs.Prelude.{ℕ, ◌+◌, ◌*◌, Bool, false, List, [], ◌∷◌, ◌++◌, length, if◌then◌else◌}
use Rattle.std.specs.Hash as fed
use Rattle.step_values.specs.declared.value.Value.{Value}
use Rattle.step_values.specs.Steps.{letter_of}
use Rattle.step_values.specs.Cell.{same}
use Rattle.skew_algebra.specs.Wave.{Wave}

-- the cell after this one, if there is one, is the same
abbrev pub goes_on : Value → List Value → Bool
goes_on v [] = false
goes_on v (w ∷ ws) = same v w

-- the write of a run: its cell, and how many cells come after it
abbrev pub run_fed : Value → ℕ → List (List ℕ)
run_fed v after = fed.u32 (letter_of v * 65536 + after)

-- a write at the last cell of each run
unfoldable pub cells_fed : List Value → List (List ℕ)
cells_fed [] = []
cells_fed (v ∷ vs) = if goes_on v vs then cells_fed vs else (run_fed v (length vs) ++ cells_fed vs)

abbrev pub wave_fed : Wave Value → List (List ℕ)
wave_fed w = fed.u16 w.skew ++ cells_fed w.cells
