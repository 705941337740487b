use Rattle.std.proofs.Common.{◌≤◌, ℕ, arith}
use Rattle.trace_tool.proofs.Meeting.{KeepsTick, below_next, meets_at}
use Rattle.trace_tool.proofs.interface.meets_clock.Goals as goal

pub returns-then-not-keeps_clock : goal.returns-then-not-keeps_clock
returns-then-not-keeps_clock c = λ m.
    (rw (c.bit_at.ensures, c.bit_at-in-loop-t.ensures) at c.if-not-keeps_clock.ensures)
    (meets_at c.args.h.now c.args.clock.now c.args.row.now c.loop-t.t m (omega arith) (omega arith))

pub loop-t-preserved : goal.loop-t-preserved
loop-t-preserved c =
    below_next (λ (t : ℕ). 1 ≤ t → KeepsTick c.args.h.now c.args.clock.now c.args.row.now t) c.loop-t.t c.loop-t.invariant
    (λ from. rw (c.bit_at.ensures, c.bit_at-in-loop-t.ensures) at c.if-not-keeps_clock.ensures)
