-- Intervals of units, on the ticks of a period.
use Rattle.std.specs.Prelude.{◌≢◌, ℕ, ◌+◌, ◌*◌, ◌<◌, ◌≤◌, Bool, not, ◌&&◌, ◌||◌, ◌==◌, nat_lt, nat_le, if◌then◌else◌}
use Rattle.scald_base.specs.declared.assertion.Span.{Span}
use Rattle.scald_base.specs.Time.{Header, period}

-- The interval begins in the period, ends in it or at its end, and is not empty.
pub record SpanFits (units : ℕ) (s : Span) : Type 0 where
  pub begins : s.lo < units
  pub ends : s.hi ≤ units
  pub some : s.lo ≢ s.hi

-- the same, as a test
abbrev pub span_fits : ℕ → Span → Bool
span_fits units s = nat_lt s.lo units && nat_le s.hi units && not (s.lo == s.hi)

-- The unit is of the interval, which goes over the period's end if hi is the lesser.
abbrev pub holds_unit : Span → ℕ → Bool
holds_unit s unit =
    if nat_lt s.lo s.hi
    then nat_le s.lo unit && nat_lt unit s.hi
    else nat_le s.lo unit || nat_lt unit s.hi

-- the tick at which the interval begins
abbrev pub begin_tick : Header → Span → ℕ
begin_tick h s = s.lo * h.ticks

-- the tick before which it ends, in the next period if it goes over the end of this one
abbrev pub end_tick : Header → Span → ℕ
end_tick h s = if nat_lt s.lo s.hi then s.hi * h.ticks else s.hi * h.ticks + period h
