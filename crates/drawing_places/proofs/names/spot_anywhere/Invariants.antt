use Rattle.std.proofs.Common.{◌≡◌, map, drop}
use Rattle.drawing_tree.specs.Tree.{macro_of}
use Rattle.drawing_places.specs.Find.{first_found}
use Rattle.drawing_places.specs.Names.{sought_seen, spot_in_macro}
use Rattle.drawing_places.proofs.names.spot_anywhere.Given as goal

abbrev pub invariant-loop-definition : goal.invariant-loop-definition
invariant-loop-definition l =
    first_found (spot_in_macro (sought_seen l.wanted)) (map macro_of (drop l.definition-index l.drawing.macros))
    ≡ first_found (spot_in_macro (sought_seen l.wanted)) (map macro_of l.drawing.macros)
