use Rattle.std.proofs.Common.{◌≡◌, ◌-◌, ℕ, ◌<◌, ◌≤◌}
use Rattle.trace_tool.specs.Interface.{row_signal}
use Rattle.trace_tool.proofs.interface.is_constant.Given as goal

abbrev pub invariant-loop-t : goal.invariant-loop-t
invariant-loop-t l = (t : ℕ) → t < l.t → 1 ≤ t → row_signal l.row (t - 1) ≡ row_signal l.row t
