use Rattle.std.proofs.Common.{ℕ}
use Rattle.trace_tool.specs.Interface.{row_signal}
use Rattle.trace_tool.specs.Pass.{AssertionEnds}
use Rattle.trace_tool.proofs.Meeting.{below_next}
use Rattle.trace_tool.proofs.assertion.row_end.Goals as goal

pub loop-t-preserved : goal.loop-t-preserved
loop-t-preserved c =
    below_next (λ (t : ℕ). AssertionEnds c.args.h.now c.args.spec.now (row_signal c.args.row.now) c.args.from t → ⊥) c.loop-t.t
    c.loop-t.invariant c.if-assertion_ends.ensures
