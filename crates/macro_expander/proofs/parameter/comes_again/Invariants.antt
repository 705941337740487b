use Rattle.std.proofs.Common.{◌≡◌, map, drop}
use Rattle.std.specs.List.{list_any}
use Rattle.drawing_tree.specs.Tree.{assignment_of}
use Rattle.macro_expander.specs.Primitives.{assigns}
use Rattle.macro_expander.proofs.parameter.comes_again.Given as goal

abbrev pub invariant-loop-param : goal.invariant-loop-param
invariant-loop-param l = list_any (assigns l.name) (map assignment_of (drop l.param-index l.params)) ≡ list_any (assigns l.name) (map assignment_of l.params)
