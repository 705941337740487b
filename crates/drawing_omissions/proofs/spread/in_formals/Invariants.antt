use Rattle.std.proofs.Common.{◌≡◌, ◌++◌, length, map}
use Rattle.std.specs.List.{flat_map, zip}
use Rattle.drawing_tree.specs.Tree.{connection_of}
use Rattle.drawing_omissions.specs.Spreads.{in_formal}
use Rattle.drawing_omissions.specs.Walk.{seen}
use Rattle.drawing_omissions.proofs.Over.{from}
use Rattle.drawing_omissions.proofs.spread.in_formals.Given as goal

abbrev pub invariant-loop-shape : goal.invariant-loop-shape
invariant-loop-shape l =
    l.found ++ from (seen l.scope) l.shapes l.ins (length l.yielded)
    ≡ l.fn.found ++ flat_map (in_formal (seen l.scope)) (zip l.shapes (map connection_of l.ins))
