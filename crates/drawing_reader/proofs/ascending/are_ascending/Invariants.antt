use Rattle.std.proofs.Common.{ℕ, List, [], drop}
use Rattle.drawing_tree.specs.Tree.{statements_of}
use Rattle.drawing_grammar.specs.DoubleNames.{labels}
use Rattle.drawing_reader.specs.Ascending.{Climbs}
use Rattle.drawing_reader.proofs.ascending.are_ascending.Given as goal

-- whatever climbs after the last label makes all climb
abbrev pub invariant-statements : goal.invariant-statements
invariant-statements l = (scope : ℕ) (end : List ℕ) → Climbs scope l.last end (labels scope (statements_of (drop l.statement-index l.statements))) →
    Climbs scope [] end (labels scope (statements_of l.statements))
