use Rattle.std.proofs.Common.{ℕ, ◌<◌}
use Rattle.trace_tool.specs.Interface.{row_signal}
use Rattle.trace_tool.specs.Pass.{AssertionEnds}
use Rattle.trace_tool.proofs.assertion.row_end.Given as goal

abbrev pub invariant-loop-t : goal.invariant-loop-t
invariant-loop-t l = (t : ℕ) → t < l.t → AssertionEnds l.h l.spec (row_signal l.row) l.from t → ⊥
