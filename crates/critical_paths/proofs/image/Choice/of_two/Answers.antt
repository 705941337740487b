use Rattle.std.proofs.Common.{◌+◌}
use Rattle.step_values.specs.StepSet.{in_set}
use Rattle.critical_paths.specs.Views.{chosen}
use Rattle.critical_paths.proofs.Making.{muxed}
use Rattle.critical_paths.proofs.image.Choice.of_two.Goals as goal

pub returns : goal.returns
returns c =
    let s = chosen c.args.self.values.now c.args.self.pin c.args.self.step.before
    c.args.self.step.after in
    muxed (in_set c.made.result) (in_set c.steps.result) (in_set c.steps-first.result)
    (in_set c.steps-second.result) (in_set c.low.result)
    (s c.args.select) (s c.args.input) (s (c.args.input + 1)) c.made.ensures c.steps.ensures
    c.steps-first.ensures c.steps-second.ensures c.low.ensures
