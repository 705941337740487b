use Rattle.std.proofs.Common.{◌≡◌, map, drop}
use Rattle.drawing_tree.specs.Tree.{assignment_of}
use Rattle.macro_expander.specs.Outcome.{collected}
use Rattle.macro_expander.specs.Macros.{parameter, parameters_of}
use Rattle.macro_expander.proofs.formal.parameters_by.Given as goal

abbrev pub invariant-loop-param : goal.invariant-loop-param
invariant-loop-param l = collected (parameter l.consts l.given) l.env (map assignment_of (drop l.param-index l.param-items))
    ≡ parameters_of l.consts l.given (map assignment_of l.params)
