use Rattle.std.proofs.Common.{◌≡◌, ℕ, ◌+◌, ap, ◌∙◌, arith}
use Rattle.step_values.specs.StepSet.{in_set}
use Rattle.critical_paths.specs.Cause.{mux}
use Rattle.critical_paths.specs.Views.{chosen}
use Rattle.critical_paths.proofs.Making.{muxed}
use Rattle.critical_paths.proofs.image.Choice.of_four.Goals as goal

pub returns : goal.returns
returns c =
    let s = chosen c.args.self.values.now c.args.self.pin c.args.self.step.before
    c.args.self.step.after in
    let at : c.args.input + 2 + 1 ≡ c.args.input + 3 = omega arith in
    muxed (in_set c.made.result) (in_set c.steps.result) (in_set c.of_two-first.result)
    (in_set c.of_two-second.result) (in_set c.low.result)
    (s c.args.select) (mux (s (c.args.select + 1)) (s c.args.input) (s (c.args.input + 1)))
    (mux (s (c.args.select + 1)) (s (c.args.input + 2)) (s (c.args.input + 3)))
    c.made.ensures c.steps.ensures c.of_two-first.ensures
    (λ b b'. c.of_two-second.ensures b b' ∙ ap (λ (z : ℕ). mux (s (c.args.select + 1))
    (s (c.args.input + 2)) (s z) b b') at)
    c.low.ensures
