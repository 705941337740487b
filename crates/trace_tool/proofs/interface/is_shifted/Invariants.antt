use Rattle.std.proofs.Common.{◌≡◌, ◌+◌, ℕ, ◌<◌}
use Rattle.scald_base.specs.Time.{period}
use Rattle.scald_base.specs.Clock.{back, ideal}
use Rattle.scald_base.specs.Fitting.{skew_of}
use Rattle.trace_tool.specs.Interface.{row_signal}
use Rattle.trace_tool.proofs.interface.is_shifted.Given as goal

abbrev pub invariant-loop-t : goal.invariant-loop-t
invariant-loop-t l =
    (t : ℕ) → t < l.t → row_signal l.row t ≡ ideal l.clock l.h (back (period l.h) (t + (skew_of l.clock l.h.pskew).0) l.by)
