use Rattle.std.proofs.Common.{ℕ, ◌<◌}
use Rattle.trace_tool.specs.Interface.{IsShifted}
use Rattle.trace_tool.proofs.interface.meets_precision.Given as goal

abbrev pub invariant-loop-by : goal.invariant-loop-by
invariant-loop-by l = (by : ℕ) → by < l.by → IsShifted l.h l.clock by l.row → ⊥
