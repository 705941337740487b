use Rattle.std.proofs.Common.{◌≡◌, map, drop}
use Rattle.drawing_tree.specs.Tree.{formal_of}
use Rattle.macro_expander.specs.Outcome.{collected}
use Rattle.macro_expander.specs.Macros.{shape_of, shapes_of}
use Rattle.macro_expander.proofs.formal.shapes.Given as goal

abbrev pub invariant-loop-formal : goal.invariant-loop-formal
invariant-loop-formal l = collected (shape_of l.env) l.shapes (map formal_of (drop l.formal-index l.formal-items)) ≡ shapes_of l.env (map formal_of l.formals)
