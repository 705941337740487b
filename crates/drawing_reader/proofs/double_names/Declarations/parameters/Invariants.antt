use Rattle.std.proofs.Common.{drop, map}
use Rattle.drawing_tree.specs.Tree.{assignment_of}
use Rattle.drawing_grammar.specs.DoubleNames.{parameters, Goes}
use Rattle.drawing_reader.proofs.double_names.Declarations.parameters.Given as goal

abbrev pub invariant-params : goal.invariant-params
invariant-params l = Goes l.initial.self l.self (parameters l.scope (map assignment_of l.params) l.places) (parameters l.scope (map assignment_of (drop l.param-index l.params)) l.rest)
