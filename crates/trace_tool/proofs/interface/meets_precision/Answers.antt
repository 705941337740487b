use Rattle.std.proofs.Common.{ℕ}
use Rattle.trace_tool.specs.Interface.{IsShifted}
use Rattle.trace_tool.proofs.Meeting.{below_next}
use Rattle.trace_tool.proofs.interface.meets_precision.Goals as goal

pub loop-by-preserved : goal.loop-by-preserved
loop-by-preserved c =
    below_next (λ (by : ℕ). IsShifted c.args.h.now c.args.clock.now by c.args.row.now → ⊥) c.loop-by.by c.loop-by.invariant c.if-is_shifted.ensures
