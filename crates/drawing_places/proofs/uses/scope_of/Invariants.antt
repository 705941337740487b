use Rattle.std.proofs.Common.{length}
use Rattle.drawing_tree.specs.Tree.{drawing_of, statements_of}
use Rattle.drawing_places.proofs.Leading.{Leads}
use Rattle.drawing_places.proofs.uses.scope_of.Given as goal

abbrev pub decreases-labels : goal.decreases-labels
decreases-labels l = length l.rest

abbrev pub invariant-labels : goal.invariant-labels
invariant-labels l = Leads (drawing_of l.drawing) l.scope l.uses (statements_of l.body) l.rest
