-- The rows of a list that is kept as one, by their spans.
use Rattle.std.specs.Prelude.{ℕ, ◌≤◌, List, slice_range}
use Rattle.clause_check.specs.declared.rows.Span.{Span}

-- the items from the span's start up to its end
abbrev pub row_at : {T : Type 0} → List T → Span → List T
row_at items span = slice_range items span.start span.end

-- a span of a list with so many items
pub record EndsWithin (items : ℕ) (span : Span) : Type 0 where
  pub ordered : span.start ≤ span.end
  pub within : span.end ≤ items
