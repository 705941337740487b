use Rattle.std.proofs.Common.{◌≡◌, map, drop}
use Rattle.drawing_tree.specs.Tree.{macro_of}
use Rattle.macro_expander.specs.Macros.{macro_of as first_called}
use Rattle.drawing_places.proofs.uses.macro_named.Given as goal

abbrev pub invariant-loop-found : goal.invariant-loop-found
invariant-loop-found l =
    first_called l.name (map macro_of (drop l.found-index l.drawing.macros)) ≡ first_called l.name (map macro_of l.drawing.macros)
