use Rattle.std.proofs.Common.{ℕ, ◌<◌}
use Rattle.trace_tool.specs.Pass.{MarkEnds}
use Rattle.trace_tool.proofs.mark.mark_end.Given as goal

abbrev pub invariant-loop-t : goal.invariant-loop-t
invariant-loop-t l = (t : ℕ) → t < l.t → MarkEnds l.bits l.i l.wires l.closed l.from t → ⊥
