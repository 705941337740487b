use Rattle.std.proofs.Common.{drop, map}
use Rattle.drawing_tree.specs.Tree.{assignment_of}
use Rattle.drawing_grammar.specs.DoubleNames.{constants, Goes}
use Rattle.drawing_reader.proofs.double_names.Declarations.constants.Given as goal

abbrev pub invariant-consts : goal.invariant-consts
invariant-consts l = Goes l.initial.self l.self (constants (map assignment_of l.consts) l.places) (constants (map assignment_of (drop l.constant-index l.consts)) l.rest)
