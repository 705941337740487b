use Rattle.std.proofs.Common.{drop, map}
use Rattle.drawing_tree.specs.Tree.{formal_of}
use Rattle.drawing_grammar.specs.DoubleNames.{formals, Goes}
use Rattle.drawing_reader.proofs.double_names.Declarations.formals.Given as goal

abbrev pub invariant-signals : goal.invariant-signals
invariant-signals l = Goes l.initial.self l.self (formals l.scope (map formal_of l.signals) l.places) (formals l.scope (map formal_of (drop l.signal-index l.signals)) l.rest)
