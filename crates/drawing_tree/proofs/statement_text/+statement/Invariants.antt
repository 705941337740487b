use Rattle.std.proofs.Common.{◌≡◌, ◌++◌, take}
use Rattle.drawing_tree.specs.Tree.{statements_of}
use Rattle.drawing_tree.specs.Canonical.{statements_lines}
use Rattle.drawing_tree.proofs.statement_text.+statement.Given as goal

abbrev pub invariant-add_statements-statements : goal.invariant-add_statements-statements
invariant-add_statements-statements l = l.out ≡ l.initial.out ++ statements_lines l.margin (statements_of (take l.statement-index l.statements))
