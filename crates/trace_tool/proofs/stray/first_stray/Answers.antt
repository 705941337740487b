use Rattle.std.proofs.Common.{ℕ, arith}
use Rattle.flat_circuit.proofs.Numbered.{order_long}
use Rattle.trace_sim.specs.Simulated.{run_of}
use Rattle.trace_tool.specs.Interface.{KeepsAt}
use Rattle.trace_tool.proofs.Meeting.{all_meet, below_next}
use Rattle.trace_tool.proofs.stray.first_stray.Goals as goal

pub keeps_at-requires-clause-inside : goal.keeps_at-requires-clause-inside
keeps_at-requires-clause-inside c =
    let long = order_long c.args.c.now.nets c.args.c.now.order c.known.ensures.by_name in
    omega arith

pub loop-place-preserved : goal.loop-place-preserved
loop-place-preserved c = λ choices.
    below_next (λ (place : ℕ). KeepsAt c.args.c.now (run_of c.args.ticks choices c.args.bits.now) place) c.loop-place.place
    (c.loop-place.invariant choices) (c.if-not-keeps_at.ensures choices)

pub returns : goal.returns
returns c = λ choices.
    all_meet c.args.c.now (run_of c.args.ticks choices c.args.bits.now) c.loop-place.place c.known.ensures (omega arith) (c.loop-place.invariant choices)
