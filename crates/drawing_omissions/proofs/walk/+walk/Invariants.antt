use Rattle.std.proofs.Common.{◌≡◌, ◌++◌, ◌-◌, drop}
use Rattle.std.specs.Prelude.{◌≤ℤ◌}
use borrow.Author.Gap.{gap}
use Rattle.drawing_tree.specs.Tree.{for_of, if_of, statement_of, statements_of}
use Rattle.macro_expander.specs.Statements.{turned_scope}
use Rattle.drawing_omissions.specs.Walk.{in_all, in_one}
use Rattle.drawing_omissions.proofs.SpreadSizes.{left, size, size_of_all}
use Rattle.drawing_omissions.proofs.Turning.{turns}
use Rattle.drawing_omissions.proofs.walk.+walk.Given as goal

abbrev pub decreases-in_statements : goal.decreases-in_statements
decreases-in_statements l = left l.library.now l.levels (size_of_all (statements_of l.statements.now))

abbrev pub decreases-in_statement : goal.decreases-in_statement
decreases-in_statement l = left l.library.now l.levels (size (statement_of l.statement.now))

abbrev pub decreases-in_if : goal.decreases-in_if
decreases-in_if l = left l.library.now l.levels (size (if_of l.choice.now) - 1)

abbrev pub decreases-in_for : goal.decreases-in_for
decreases-in_for l = left l.library.now l.levels (size (for_of l.repeated.now) - 1)

abbrev pub decreases-in_use : goal.decreases-in_use
decreases-in_use l = left l.library.now l.levels 0

abbrev pub invariant-in_statements-statements : goal.invariant-in_statements-statements
invariant-in_statements-statements l =
    l.found ++ in_all l.library l.levels (statements_of (drop l.statement-index l.statements)) l.scope
    ≡ l.fn.found ++ in_all l.library l.levels (statements_of l.statements) l.scope

-- the values that are left
abbrev pub decreases-in_for-turns : goal.decreases-in_for-turns
decreases-in_for-turns l = gap l.value l.last

abbrev pub invariant-in_for-turns : goal.invariant-in_for-turns
invariant-in_for-turns l = record {
  found_so : l.found ++ turns l.library l.levels l.repeated l.scope l.value l.last
      ≡ l.fn.found ++ in_one l.library l.levels (for_of l.repeated) l.scope;
  inner : l.inner ≡ turned_scope l.repeated.var l.value l.scope;
  within : l.value ≤ℤ l.last;
}
