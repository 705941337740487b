-- Slots of two periods, and what is asked of them one after another.
use Rattle.std.specs.Prelude.{◌≡◌, ℕ, ◌+◌, ◌-◌, ◌%◌, ◌<◌, ◌≤◌, Bool, true, false, not, ◌&&◌, nat_lt, nat_le, Option, Some, None, if◌then◌else◌}
use Rattle.scald_base.specs.Time.{Header, period}
use Rattle.scald_base.specs.Clock.{ideal}
use Rattle.scald_base.specs.declared.assertion.ClockSpec.{ClockSpec}

abbrev pub is_between : ℕ → ℕ → ℕ → Bool
is_between begin tick end = nat_lt begin tick && nat_lt tick end

-- The ideal clock steps at this tick. Ticks go on over the period's end.
abbrev pub steps : ClockSpec → Header → ℕ → Bool
steps c h tick =
    if ideal c h ((tick + (period h - 1)) % period h)
    then not (ideal c h (tick % period h))
    else ideal c h (tick % period h)

-- the last that passed is at most so many ticks before this one
abbrev pub is_near : Option ℕ → ℕ → ℕ → Bool
is_near None tick reach = false
is_near (Some last) tick reach = nat_le (tick - last) reach

-- Two of the first n ticks pass, and are at most so many ticks apart.
pub record AreNear (test : ℕ → Bool) (reach n : ℕ) : Type 0 where
  pub first : ℕ
  pub second : ℕ
  pub ordered : first < second
  pub within : second < n
  pub near : second ≤ first + reach
  pub at_first : test first ≡ true
  pub at_second : test second ≡ true
