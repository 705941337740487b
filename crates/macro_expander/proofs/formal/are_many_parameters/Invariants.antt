use Rattle.macro_expander.specs.Parameters.{KnownBehind}
use Rattle.macro_expander.specs.Macros.{has_parameter}
use Rattle.drawing_tree.specs.Tree.{macro_of}
use Rattle.macro_expander.proofs.formal.are_many_parameters.Given as goal

abbrev pub decreases-loop-place : goal.decreases-loop-place
decreases-loop-place l = l.place

abbrev pub invariant-loop-place : goal.invariant-loop-place
invariant-loop-place l = KnownBehind (has_parameter (macro_of l.definition)) l.params l.behind.entries l.place
