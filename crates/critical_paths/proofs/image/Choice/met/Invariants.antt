use Rattle.step_values.specs.StepSet.{in_set}
use Rattle.critical_paths.proofs.Making.{Same, met_of}
use Rattle.critical_paths.proofs.image.Choice.met.Given as goal

abbrev pub invariant-loop-place : goal.invariant-loop-place
invariant-loop-place l =
    Same (in_set l.met) (met_of l.kind l.self.values.now l.self.pin l.self.step.before
    l.self.step.after l.place)
