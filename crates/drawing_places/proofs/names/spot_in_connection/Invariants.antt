use Rattle.std.proofs.Common.{◌≡◌, map, drop}
use Rattle.drawing_tree.specs.Tree.{term_of}
use Rattle.drawing_places.specs.Find.{first_found}
use Rattle.drawing_places.specs.Names.{sought_seen, spot_in_term}
use Rattle.drawing_places.proofs.names.spot_in_connection.Given as goal

abbrev pub invariant-loop-term : goal.invariant-loop-term
invariant-loop-term l =
    first_found (spot_in_term (sought_seen l.wanted) l.connection.place) (map term_of (drop l.term-index l.connection.terms))
    ≡ first_found (spot_in_term (sought_seen l.wanted) l.connection.place) (map term_of l.connection.terms)
