use Rattle.std.proofs.Common.{arith}
use Rattle.trace_sim.specs.Choice.{choices_of}
use Rattle.trace_sim.proofs.Failing.{fine_next, is_first}
use Rattle.trace_sim.proofs.failure.first_at.Goals as goal

pub returns-in-Some : goal.returns-in-Some
returns-in-Some c =
    let count = c.instance_count-k-end.ensures in
    is_first c.args.c.now c.args.choice.now c.args.bits.now c.args.t c.loop-k.k c.in-Some.net c.in_ok-net.field-0 c.requires.picks
    (omega (arith, c.loop-k-test.true)) c.in-Some.is c.in_ok-net.ensures c.loop-k.invariant

pub loop-k-preserved : goal.loop-k-preserved
loop-k-preserved c =
    fine_next c.args.c.now (choices_of c.args.choice.now) c.args.bits.now c.args.t c.loop-k.k c.in_ok-net.field-0 c.in_default.is
    c.in_ok-net.ensures c.loop-k.invariant
