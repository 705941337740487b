use Rattle.std.proofs.Common.{ℕ, ◌<◌, ◌≤◌}
use Rattle.trace_tool.proofs.Meeting.{KeepsTick}
use Rattle.trace_tool.proofs.interface.meets_clock.Given as goal

abbrev pub invariant-loop-t : goal.invariant-loop-t
invariant-loop-t l = (t : ℕ) → t < l.t → 1 ≤ t → KeepsTick l.h l.clock l.row t
