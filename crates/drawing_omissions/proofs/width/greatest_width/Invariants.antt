use Rattle.std.proofs.Common.{◌≡◌, map, drop}
use Rattle.std.specs.Prelude.{max}
use Rattle.drawing_tree.specs.Tree.{connection_of}
use Rattle.macro_expander.specs.Primitives.{greatest}
use Rattle.drawing_omissions.specs.Walk.{seen}
use Rattle.drawing_omissions.specs.Widths.{widths}
use Rattle.drawing_omissions.proofs.width.greatest_width.Given as goal

abbrev pub invariant-loop-connection : goal.invariant-loop-connection
invariant-loop-connection l =
    max l.greatest (greatest (widths (seen l.scope) (map connection_of (drop l.connection-index l.connections))))
    ≡ greatest (widths (seen l.scope) (map connection_of l.connections))
