-- Ticks of any period, and the slots of the period in which they stand.
use Rattle.std.specs.Prelude.{ℕ, ◌≤◌, ◌^◌, ℤ, pos, ◌+ℤ◌, ◌-ℤ◌, unsigned_abs, int_lt, Bool}
use Rattle.std.specs.Int.{int_rem_euclid}
use Rattle.critical_paths.specs.declared.direction.Corner.{Corner}
use Rattle.critical_paths.specs.declared.direction.Corner.TheVariants.{Late, Early}

-- the slot of a tick, in a period of p
abbrev pub slot_of : ℕ → ℤ → ℕ
slot_of p tick = unsigned_abs (int_rem_euclid tick (pos p))

-- the tick beside one, away from the region that ends there
abbrev pub tick_beside : Corner → ℤ → ℤ
tick_beside Late tick = tick +ℤ pos 1
tick_beside Early tick = tick -ℤ pos 1

-- further at this end
abbrev pub is_further : Corner → ℤ → ℤ → Bool
is_further Late tick than = int_lt than tick
is_further Early tick than = int_lt tick than

-- a tick that lies within so many of 0
abbrev pub IsWithin : ℕ → ℤ → Type 0
IsWithin most tick = unsigned_abs tick ≤ most

-- More than any path takes: there are less than 2 ^ 31 events of less than 2 ^ 14 ticks each.
abbrev pub most_tick : ℕ
most_tick = 2 ^ 48
