use Rattle.step_values.specs.StepSet.{in_set}
use Rattle.critical_paths.specs.Views.{chosen}
use Rattle.critical_paths.proofs.Making.{reg_made}
use Rattle.critical_paths.proofs.image.Choice.reg.Goals as goal

pub returns : goal.returns
returns c =
    let s = chosen c.args.self.values.now c.args.self.pin c.args.self.step.before
    c.args.self.step.after in
    reg_made (in_set c.made.result) (in_set c.steps.result) (in_set c.low-zero.result)
    (in_set c.low-zero.result) (in_set c.low-zero.result)
    (s 0) c.made.ensures c.steps.ensures c.low-zero.ensures c.low-zero.ensures c.low-zero.ensures
