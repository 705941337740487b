use Rattle.step_values.specs.StepSet.{in_set}
use Rattle.critical_paths.specs.Views.{chosen}
use Rattle.critical_paths.proofs.Making.{reg_rs_made}
use Rattle.critical_paths.proofs.image.Choice.reg_rs.Goals as goal

pub returns : goal.returns
returns c =
    let s = chosen c.args.self.values.now c.args.self.pin c.args.self.step.before
    c.args.self.step.after in
    reg_rs_made (in_set c.made.result) (in_set c.steps.result) (in_set c.low.result)
    (in_set c.steps-set.result) (in_set c.steps-reset.result)
    (s 0) (s 2) (s 3) c.made.ensures c.steps.ensures c.low.ensures c.steps-set.ensures
    c.steps-reset.ensures
