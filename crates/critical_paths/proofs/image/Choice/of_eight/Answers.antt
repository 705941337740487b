use Rattle.step_values.specs.StepSet.{in_set}
use Rattle.critical_paths.specs.Cause.{mux}
use Rattle.critical_paths.specs.Views.{chosen}
use Rattle.critical_paths.proofs.Making.{muxed}
use Rattle.critical_paths.proofs.image.Choice.of_eight.Goals as goal

pub returns : goal.returns
returns c =
    let s = chosen c.args.self.values.now c.args.self.pin c.args.self.step.before
    c.args.self.step.after in
    muxed (in_set c.made.result) (in_set c.steps.result) (in_set c.of_four-first.result)
    (in_set c.of_four-second.result) (in_set c.low.result)
    (s 0) (mux (s 1) (mux (s 2) (s 3) (s 4)) (mux (s 2) (s 5) (s 6)))
    (mux (s 1) (mux (s 2) (s 7) (s 8)) (mux (s 2) (s 9) (s 10)))
    c.made.ensures c.steps.ensures c.of_four-first.ensures c.of_four-second.ensures c.low.ensures
