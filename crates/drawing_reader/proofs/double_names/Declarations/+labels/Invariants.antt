use Rattle.std.proofs.Common.{drop}
use Rattle.drawing_tree.specs.Tree.{statements_of}
use Rattle.drawing_grammar.specs.DoubleNames.{labels, Goes}
use Rattle.drawing_reader.proofs.double_names.Declarations.+labels.Given as goal

abbrev pub invariant-statements-statements : goal.invariant-statements-statements
invariant-statements-statements l = Goes l.initial.self l.self (labels l.scope (statements_of l.statements)) (labels l.scope (statements_of (drop l.statement-index l.statements)))
