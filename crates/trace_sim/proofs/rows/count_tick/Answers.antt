use Rattle.std.proofs.Common.{arith}
use Rattle.trace_sim.specs.Choice.{choices_of}
use Rattle.trace_sim.proofs.Steps.{all_now}
use Rattle.trace_sim.proofs.rows.count_tick.Goals as goal

pub counted-requires-clause-before : goal.counted-requires-clause-before
counted-requires-clause-before c = λ i at here chose. (c.loop-k.invariant.counted c.loop-k.k i at here chose).1 (omega arith)

pub returns-clause-rows : goal.returns-clause-rows
returns-clause-rows c =
    all_now c.args.c.now (choices_of c.args.choice.now) c.args.bits.now c.loop-k.rows
    c.args.t c.loop-k.k (omega (arith, c.loop-k-test.false, c.instance_count-k-end.ensures)) c.loop-k.invariant.counted
