-- Lists with a cell for each slot of a period, read backwards in time over its beginning.
use Rattle.std.specs.Prelude.{◌≡◌, ◌≢◌, ℕ, zero, suc, ◌+◌, ◌≤◌, ◌<◌, Bool, true, false, Option, Some, None, List, [], ◌∷◌, length, slice_get, slice_index_or}
use Rattle.scald_base.specs.Clock.{back}
use Rattle.wave_core.specs.Cell.{Cells}

-- how many slots a period may have
pub record IsPeriod (slots : ℕ) : Type 0 where
  pub shortest : 2 ≤ slots
  pub longest : slots ≤ 4096

-- what each of n slots is by its number, from i on
abbrev pub slots_from : {T : Type 0} → ℕ → ℕ → (ℕ → T) → List T
slots_from zero i f = []
slots_from (suc n) i f = f i ∷ slots_from n (i + 1) f

abbrev pub slots : {T : Type 0} → ℕ → (ℕ → T) → List T
slots n f = slots_from n 0 f

-- The slots from one on to before another have one cell, and the slot where they end has another
-- cell, if it is in the list.
pub record SameUntil {T : Type 0} (cells : List T) (slot end : ℕ) : Type 0 where
  pub behind : slot < end
  pub within : end ≤ length cells
  pub same : (p : ℕ) → slot ≤ p → p < end → slice_get cells p ≡ slice_get cells slot
  pub other : end < length cells → slice_get cells end ≢ slice_get cells slot

-- the cell o slots before slot t
unfoldable pub earlier : {T : Type 0} → Cells T → List T → ℕ → ℕ → T
earlier k cells t o = slice_index_or cells (back (length cells) t o) k.any

-- the cell of slot t, counted round the period
abbrev pub cell_round : {T : Type 0} → Cells T → List T → ℕ → T
cell_round k cells t = earlier k cells t 0

-- A test gives this of each cell at the places `first` to before `end`, of which place 0 is slot
-- `from`, round the period.
abbrev pub Gives : {T : Type 0} → Cells T → List T → (T → Bool → Type 0) → ℕ → ℕ → ℕ → Bool → Type 0
Gives k cells test from first end answer =
    (place : ℕ) → first ≤ place → place < end → test (cell_round k cells (from + place)) answer

-- The cell at this place, of `count` places, passes the test, and none at a place before it does.
pub record IsFirstWhere {T : Type 0} (k : Cells T) (cells : List T) (test : T → Bool → Type 0)
    (from count place : ℕ) : Type 0 where
  pub within : place < count
  pub passes : test (cell_round k cells (from + place)) true
  pub before : Gives k cells test from 0 place false

-- that place, or none passes
abbrev pub FirstWhere : {T : Type 0} → Cells T → List T → (T → Bool → Type 0) → ℕ → ℕ →
    Option ℕ → Type 0
FirstWhere k cells test from count None = Gives k cells test from 0 count false
FirstWhere k cells test from count (Some place) = IsFirstWhere k cells test from count place

-- by so many slots later
abbrev pub later : {T : Type 0} → Cells T → List T → ℕ → List T
later k cells by = slots (length cells) (λ p. earlier k cells p by)

-- the join of f 0 to f n
abbrev pub join_to : {T : Type 0} → Cells T → (ℕ → T) → ℕ → T
join_to k f zero = f 0
join_to k f (suc n) = k.join (join_to k f n) (f (suc n))

-- the join of the cells at the slots p - n to p
abbrev pub fold_at : {T : Type 0} → Cells T → List T → ℕ → ℕ → T
fold_at k cells n p = join_to k (λ o. earlier k cells p o) n

-- for each slot, the join of its cell and those of the n slots before
abbrev pub folded : {T : Type 0} → Cells T → List T → ℕ → List T
folded k cells n = slots (length cells) (fold_at k cells n)

-- the join of the cells at n + 1 places, of which place 0 is slot `from`, round the period
abbrev pub join_round : {T : Type 0} → Cells T → List T → ℕ → ℕ → T
join_round k cells from n = join_to k (λ i. cell_round k cells (from + i)) n
