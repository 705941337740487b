use Rattle.std.proofs.Common.{◌≡◌, ◌++◌, map, drop}
use Rattle.std.specs.List.{flat_map}
use Rattle.drawing_tree.specs.Tree.{connection_of}
use Rattle.drawing_omissions.specs.Spreads.{spread_over}
use Rattle.drawing_omissions.specs.Walk.{seen}
use Rattle.drawing_omissions.proofs.spread.in_primitive.Given as goal

abbrev pub invariant-loop-connection : goal.invariant-loop-connection
invariant-loop-connection l =
    l.found ++ flat_map (spread_over (seen l.scope) l.width) (map connection_of (drop l.connection-index l.connection-items))
    ≡ l.fn.found ++ flat_map (spread_over (seen l.scope) l.width) (map connection_of l.used.ins)
