use Rattle.std.proofs.Common.{ℕ, ◌<◌}
use Rattle.scald_base.specs.Time.{period}
use Rattle.scald_base.specs.Clock.{IsEdge, back}
use Rattle.trace_tool.proofs.Meeting.{early_slot}
use Rattle.trace_tool.proofs.interface.is_near.Given as goal

abbrev pub invariant-loop-by : goal.invariant-loop-by
invariant-loop-by l = (by : ℕ) → by < l.by → IsEdge l.clock l.h l.to (back (period l.h) (early_slot l.h l.clock l.t) by) → ⊥
