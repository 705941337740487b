-- What holds of every assertion: a part of a net that keeps it keeps it, and so does the ideal
-- clock itself.
use Rattle.std.specs.Prelude.{ℕ, ◌+◌, ◌%◌, ◌<◌, ◌≤◌}
use Rattle.scald_base.specs.Time.{Header, period}
use Rattle.scald_base.specs.Clock.{ideal}
use Rattle.scald_base.specs.Fitting.{EdgesOverlap}
use Rattle.scald_base.specs.Signal.{Signal}
use Rattle.scald_base.specs.declared.assertion.ClockSpec.{ClockSpec}
use Rattle.scald_base.specs.declared.assertion.AssertSpec.{AssertSpec}
use Rattle.scald_base.specs.declared.assertion.AssertSpec.TheVariants.{None as Unasserted, Precision, Clock}
use Rattle.pin_waves.specs.Meets.{Meets}

-- from so many ticks later on
abbrev pub later_on : ℕ → Signal → Signal
later_on by x t = x (t + by)

-- the ideal clock, at every tick
abbrev pub ideal_signal : ClockSpec → Header → Signal
ideal_signal c h t = ideal c h (t % period h)

-- Fewer ticks of a net that keeps its assertion keep it.
abbrev pub FrontKeeps : Type 0
FrontKeeps = (h : Header) (a : AssertSpec) (m n : ℕ) (x : Signal) → m ≤ n → Meets h a n x →
    Meets h a m x

-- What follows a whole period of it keeps it.
abbrev pub NextPeriodKeeps : Type 0
NextPeriodKeeps = (h : Header) (a : AssertSpec) (n : ℕ) (x : Signal) → Meets h a (n + period h) x →
    Meets h a n (later_on (period h) x)

-- A net without an assertion keeps that from any tick on.
abbrev pub RestKeeps : Type 0
RestKeeps = (h : Header) (by n : ℕ) (x : Signal) → Meets h Unasserted (n + by) x →
    Meets h Unasserted n (later_on by x)

-- The ideal clock keeps what it asserts, whatever its skew is.
abbrev pub IdealKeepsPrecision : Type 0
IdealKeepsPrecision = (h : Header) (c : ClockSpec) (n : ℕ) → 0 < period h →
    Meets h (Precision c) n (ideal_signal c h)

-- If each edge moves by itself it does, if no two regions share a slot.
abbrev pub IdealKeepsClock : Type 0
IdealKeepsClock = (h : Header) (c : ClockSpec) (n : ℕ) → 0 < period h → ¬ EdgesOverlap h (Clock c) →
    Meets h (Clock c) n (ideal_signal c h)
