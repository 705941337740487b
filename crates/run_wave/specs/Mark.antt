-- Marks in a list of runs: the slots at which every sixteenth of its runs begins.
use Rattle.std.specs.Prelude.{◌≡◌, ℕ, ◌+◌, ◌*◌, ◌<◌, List, length, take, slice_index_or}
use Rattle.run_wave.specs.declared.run.Run.{Run}
use Rattle.run_wave.specs.Run.{cells_of}

-- the number of the run that mark i marks
abbrev pub marked_run : ℕ → ℕ
marked_run i = 16 * (i + 1)

-- Each mark is of a run that is there, and has the number of slots before it.
abbrev pub AreMarks : {T : Type 0} → List (Run T) → List ℕ → Type 0
AreMarks rs marks =
    (i : ℕ) → i < length marks → (marked_run i < length rs)
    × (slice_index_or marks i 0 ≡ length (cells_of (take (marked_run i) rs)))
