use Rattle.std.proofs.Common.{◌≡◌, map, drop}
use Rattle.drawing_tree.specs.Tree.{assignment_of, macro_of}
use Rattle.macro_expander.specs.Primitives.{are_of}
use Rattle.macro_expander.specs.Macros.{has_parameter}
use Rattle.macro_expander.proofs.formal.are_few_parameters.Given as goal

abbrev pub invariant-loop-i : goal.invariant-loop-i
invariant-loop-i l = are_of (has_parameter (macro_of l.definition)) (map assignment_of (drop l.i l.params)) ≡ are_of (has_parameter (macro_of l.definition)) (map assignment_of l.fn.params)
