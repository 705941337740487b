use Rattle.std.proofs.Common.{◌≡◌, drop, map}
use Rattle.drawing_tree.specs.Tree.{macro_of}
use Rattle.drawing_grammar.specs.DoubleNames.{macros_declared, Goes}
use Rattle.drawing_reader.proofs.double_names.Declarations.definitions.Given as goal

abbrev pub invariant-definitions : goal.invariant-definitions
invariant-definitions l = (l.scope ≡ l.definition-index) × Goes l.initial.self l.self (macros_declared 0 (map macro_of l.definitions) l.heads)
    (macros_declared l.definition-index (map macro_of (drop l.definition-index l.definitions)) l.rest)
