-- Numbers that follow one another, as those of a formal do.
use Rattle.std.specs.Prelude.{◌≡◌, ℕ, ◌<◌, List, length, slice_index}
use Rattle.std.specs.Int.{abs_diff}
use Rattle.macro_expander.specs.declared.scope.Bound.{Bound}

-- Up or down: each stands as far from the first as they differ.
pub record IsRun (numbers : List ℕ) : Type 0 where
  pub apart : (i : ℕ) → i < length numbers →
      abs_diff (slice_index numbers 0) (slice_index numbers i) ≡ i

pub record HasRun (f : Bound) : Type 0 where
  pub numbers : IsRun f.numbers
