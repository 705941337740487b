-- The next edge of a clock.
use Rattle.std.specs.Prelude.{◌≡◌, ℕ, ◌<◌, ◌≤◌, true, false}
use Rattle.step_values.specs.Steps.{has}
use Rattle.point_check.specs.Window.{Folds}

-- From a slot on the clock may not rise before this one, which is a slot of the period in which it
-- may, or the period's end.
pub record IsNextEdge (clock : Folds) (from p next : ℕ) : Type 0 where
  pub after : from ≤ next
  pub within : next ≤ p
  pub none : (s : ℕ) → from ≤ s → s < next → has (clock s) false true ≡ false
  pub at : next < p → has (clock next) false true ≡ true
