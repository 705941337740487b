use Rattle.fixpoint_engine.specs.Settled.{marked_in}
use Rattle.fault_decider.specs.Choices.{tick_text}
use Rattle.fault_decider.proofs.Numbers.{tick_added}
use Rattle.fault_decider.proofs.steps.add_steps.Goals as goal

pub loop-t-preserved : goal.loop-t-preserved
loop-t-preserved c =
    tick_added (tick_text c.args.c.now c.args.trace.now (marked_in c.args.cone.now)) _ c.loop-t.t
    c.args.out.now c.loop-t.out c.add_tick.new.out c.loop-t.near-t c.loop-t.invariant
    c.in_ok-add_tick.ensures
