use Rattle.std.proofs.Common.{◌≡◌, map, drop}
use Rattle.drawing_tree.specs.Tree.{assignment_of}
use Rattle.macro_expander.specs.Primitives.{are_of, takes}
use Rattle.macro_expander.proofs.primitive.are_parameters.Given as goal

abbrev pub invariant-loop-i : goal.invariant-loop-i
invariant-loop-i l = are_of (takes l.kind) (map assignment_of (drop l.i l.params)) ≡ are_of (takes l.kind) (map assignment_of l.fn.params)
