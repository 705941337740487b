use Rattle.std.proofs.Common.{[], map, drop}
use Rattle.drawing_tree.specs.Tree.{assignment_of}
use Rattle.macro_expander.specs.Flat.{const_values}
use Rattle.macro_expander.proofs.ConstantValues.{GoneOn}
use Rattle.macro_expander.proofs.constants.constants.Given as goal

abbrev pub invariant-loop-i : goal.invariant-loop-i
invariant-loop-i l = GoneOn l.known (drop l.i l.consts) (drop l.i l.places) (const_values [] (map assignment_of l.consts) l.places)
