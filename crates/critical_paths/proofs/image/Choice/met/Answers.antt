use Rattle.std.proofs.Common.{arith}
use Rattle.step_values.specs.StepSet.{in_set}
use Rattle.critical_paths.proofs.Making.{met_next}
use Rattle.critical_paths.proofs.image.Choice.met.Goals as goal

pub loop-place-preserved : goal.loop-place-preserved
loop-place-preserved c =
    let s = c.args.self in
    met_next c.args.kind s.values.now s.pin s.step.before s.step.after c.loop-place.place
    (in_set c.loop-place.met) (in_set c.steps.result) (in_set c.low.result)
    (in_set c.low-in-loop-place.result) (in_set c.made-met.result)
    (omega arith) (omega arith) c.loop-place.invariant c.steps.ensures c.low.ensures
    c.low-in-loop-place.ensures c.made-met.ensures
