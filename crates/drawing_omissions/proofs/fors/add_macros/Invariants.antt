use Rattle.std.proofs.Common.{◌≡◌, ◌++◌, map, take}
use Rattle.std.specs.List.{flat_map}
use Rattle.drawing_tree.specs.Tree.{macro_of}
use Rattle.drawing_omissions.specs.Fors.{fors_in_macro}
use Rattle.drawing_omissions.proofs.fors.add_macros.Given as goal

abbrev pub invariant-loop-definition : goal.invariant-loop-definition
invariant-loop-definition l =
    l.found ≡ l.fn.found ++ flat_map fors_in_macro (map macro_of (take l.definition-index l.macros))
