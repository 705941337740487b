use Rattle.std.proofs.Common.{◌≡◌, ◌++◌, ◌-◌, drop}
use Rattle.drawing_tree.specs.Tree.{for_of, if_of, statement_of, statements_of}
use Rattle.drawing_omissions.specs.Fors.{fors_in_all}
use Rattle.drawing_omissions.proofs.SpreadSizes.{size, size_of_all}
use Rattle.drawing_omissions.proofs.fors.+fors.Given as goal

abbrev pub decreases-add_all : goal.decreases-add_all
decreases-add_all l = size_of_all (statements_of l.statements.now)

abbrev pub decreases-add_statement : goal.decreases-add_statement
decreases-add_statement l = size (statement_of l.statement.now)

abbrev pub decreases-add_if : goal.decreases-add_if
decreases-add_if l = size (if_of l.choice.now) - 1

abbrev pub decreases-add_for : goal.decreases-add_for
decreases-add_for l = size (for_of l.repeated.now) - 1

abbrev pub invariant-add_all-loop-statement : goal.invariant-add_all-loop-statement
invariant-add_all-loop-statement l =
    l.found ++ fors_in_all (statements_of (drop l.statement-index l.statements)) ≡ l.fn.found ++ fors_in_all (statements_of l.statements)
