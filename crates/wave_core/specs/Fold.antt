-- How a fold is put together, block by block of back + 1 slots: the last cells of one block joined
-- with the first cells of the next.
use Rattle.std.specs.Prelude.{ℕ, ◌+◌, ◌*◌, ◌-◌, List, length}
use Rattle.wave_core.specs.Cell.{Cells}
use Rattle.wave_core.specs.Slots.{earlier, join_to, slots}

-- the cells of two periods, each taken `back` slots before
unfoldable pub line : {T : Type 0} → Cells T → List T → ℕ → List T
line k cells back = slots (2 * length cells) (λ t. earlier k cells t back)

-- the join of the cells of n + 1 slots from slot `from` on, each taken `back` slots before
unfoldable pub span : {T : Type 0} → Cells T → List T → ℕ → ℕ → ℕ → T
span k cells back from n = join_to k (λ j. earlier k cells (from + j) back) n

-- the join of a block's last n + 1 cells
abbrev pub tail : {T : Type 0} → Cells T → List T → ℕ → ℕ → ℕ → T
tail k cells back from n = span k cells back (from + (back - n)) n

-- that for each n up to the whole block
unfoldable pub tails : {T : Type 0} → Cells T → List T → ℕ → ℕ → List T
tails k cells back from = slots (back + 1) (tail k cells back from)
