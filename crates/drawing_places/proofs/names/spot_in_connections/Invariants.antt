use Rattle.std.proofs.Common.{◌≡◌, map, drop}
use Rattle.drawing_tree.specs.Tree.{connection_of}
use Rattle.drawing_places.specs.Find.{first_found}
use Rattle.drawing_places.specs.Names.{sought_seen, spot_in_connection}
use Rattle.drawing_places.proofs.names.spot_in_connections.Given as goal

abbrev pub invariant-loop-connection : goal.invariant-loop-connection
invariant-loop-connection l =
    first_found (spot_in_connection (sought_seen l.wanted)) (map connection_of (drop l.connection-index l.connections))
    ≡ first_found (spot_in_connection (sought_seen l.wanted)) (map connection_of l.connections)
