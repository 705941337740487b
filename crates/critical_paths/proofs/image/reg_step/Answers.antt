use Rattle.std.proofs.Common.{◌∙◌}
use Rattle.step_values.specs.StepSet.{in_set}
use Rattle.critical_paths.proofs.Making.{reg_steps}
use Rattle.critical_paths.proofs.image.reg_step.Goals as goal

pub returns : goal.returns
returns c before after =
    c.followed_by.ensures before after
    ∙ reg_steps c.args.clock.before c.args.clock.after c.args.set.before c.args.set.after
    c.args.reset.before c.args.reset.after
    c.rises-takes.result (in_set c.stored-earlier.result) (in_set c.stored-now.result)
    c.rises-takes.ensures c.stored-earlier.ensures c.stored-now.ensures before after
