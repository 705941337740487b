use Rattle.std.proofs.Common.{arith}
use Rattle.run_clauses.proofs.driven.add_split.Goals as goal

pub loop-slow-init : goal.loop-slow-init
loop-slow-init c bits is before = before

pub loop-fast-init : goal.loop-fast-init
loop-fast-init c bits is before = c.loop-slow.invariant bits is before

pub loop-fast-preserved : goal.loop-fast-preserved
loop-fast-preserved c bits is before =
    c.in_ok-add_pair.ensures bits (is c.loop-slow.slow c.loop-fast.fast (omega arith) (omega arith))
    (c.loop-fast.invariant bits is before)

pub loop-slow-preserved : goal.loop-slow-preserved
loop-slow-preserved c bits is before = c.loop-fast.invariant bits is before
