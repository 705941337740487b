use Rattle.std.proofs.Common.{ℕ, ◌<◌}
use Rattle.trace_tool.specs.Pass.{Disturbs, LetsThrough}
use Rattle.trace_tool.proofs.mark.mark_ends.Given as goal

abbrev pub invariant-loop-marked : goal.invariant-loop-marked
invariant-loop-marked l =
    (marked : ℕ) → marked < l.marked → LetsThrough l.bits l.i l.wires l.closed l.from l.t marked →
    Disturbs l.bits l.i l.wires l.from l.t marked → ⊥
