use Rattle.step_values.specs.StepSet.{in_set}
use Rattle.critical_paths.specs.Views.{chosen}
use Rattle.critical_paths.proofs.Making.{latch_made}
use Rattle.critical_paths.proofs.image.Choice.latch.Goals as goal

pub returns : goal.returns
returns c =
    let s = chosen c.args.self.values.now c.args.self.pin c.args.self.step.before
    c.args.self.step.after in
    latch_made (in_set c.made.result) (in_set c.steps-enable.result) (in_set c.steps-input.result)
    (in_set c.low-zero.result) (in_set c.low-zero.result)
    (s 0) (s 1) c.made.ensures c.steps-enable.ensures c.steps-input.ensures c.low-zero.ensures
    c.low-zero.ensures
