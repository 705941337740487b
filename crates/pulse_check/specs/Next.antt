-- The next slot in which a pulse may begin.
use Rattle.std.specs.Prelude.{◌≡◌, ℕ, ◌<◌, ◌≤◌, Bool, true, false}
use Rattle.pulse_check.specs.Pulse.{Slots, may_begin}

-- From a slot on no pulse at the level may begin before this one, which is a slot of the period in
-- which one may, or the period's end.
pub record IsNextStart (level : Bool) (wave : Slots) (from p next : ℕ) : Type 0 where
  pub after : from ≤ next
  pub within : next ≤ p
  pub none : (s : ℕ) → from ≤ s → s < next → may_begin level (wave s) ≡ false
  pub at : next < p → may_begin level (wave next) ≡ true
