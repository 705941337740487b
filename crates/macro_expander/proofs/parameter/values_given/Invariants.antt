use Rattle.std.proofs.Common.{◌≡◌, map, drop}
use Rattle.drawing_tree.specs.Tree.{assignment_of}
use Rattle.macro_expander.specs.Outcome.{collected}
use Rattle.macro_expander.specs.Primitives.{assigned, values_given}
use Rattle.macro_expander.proofs.parameter.values_given.Given as goal

abbrev pub invariant-loop-param : goal.invariant-loop-param
invariant-loop-param l = collected (assigned l.env) l.given (map assignment_of (drop l.param-index l.param-items)) ≡ values_given l.env (map assignment_of l.params)
