use Rattle.std.proofs.Common.{◌≡◌, ◌-◌, ℕ, ◌<◌, ◌≤◌, true}
use Rattle.scald_base.specs.Time.{period}
use Rattle.scald_base.specs.Clock.{back}
use Rattle.scald_base.specs.Quiet.{quiet}
use Rattle.trace_tool.specs.Interface.{row_signal}
use Rattle.trace_tool.proofs.interface.meets_stable.Given as goal

abbrev pub invariant-loop-t : goal.invariant-loop-t
invariant-loop-t l =
    (t : ℕ) → t < l.t → 1 ≤ t → quiet l.spans l.h (back (period l.h) t 0) ≡ true → row_signal l.row (t - 1) ≡ row_signal l.row t
