use Rattle.std.proofs.Common.{◌≡◌, arith, length}
use Rattle.fixpoint_engine.specs.Settled.{marked_in}
use Rattle.fault_decider.specs.Choices.{delay_of}
use Rattle.fault_decider.proofs.Numbers.{next_added, numbers_whole}
use Rattle.fault_decider.proofs.choices.add_delays.Goals as goal

pub loop-k-preserved : goal.loop-k-preserved
loop-k-preserved c =
    next_added (delay_of c.args.c.now c.args.trace.now (marked_in c.args.cone.now)) c.loop-k.k
    c.args.out.now c.loop-k.out c.add_delay_at.new.out c.loop-k.invariant c.in_ok-add_delay_at.ensures

pub returns : goal.returns
returns c =
    let count = c.instance_count-k-end.ensures in
    let past = c.loop-k-test.false in
    let most = c.loop-k.auto.k-end in
    let all : c.loop-k.k ≡ length c.args.c.now.instances = omega (arith, count, past, most) in
    numbers_whole (delay_of c.args.c.now c.args.trace.now (marked_in c.args.cone.now)) c.loop-k.k
    (length c.args.c.now.instances) c.args.out.now c.loop-k.out all c.loop-k.invariant
