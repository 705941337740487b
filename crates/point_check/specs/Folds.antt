-- Windows that lie within two periods.
use Rattle.std.specs.Prelude.{ℕ, ◌*◌, ◌≤◌}
use Rattle.point_check.specs.declared.window.Window.{Window}
use Rattle.point_check.specs.Window.{places}

pub record WindowFits (p : ℕ) (w : Window) : Type 0 where
  pub early : w.setup ≤ p
  pub long : places w ≤ 2 * p
