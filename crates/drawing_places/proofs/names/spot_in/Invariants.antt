use Rattle.std.proofs.Common.{◌≡◌, drop}
use Rattle.drawing_places.specs.Body.{trees}
use Rattle.drawing_places.specs.Find.{first_found}
use Rattle.drawing_places.specs.Names.{sought_seen, spot_in_statement}
use Rattle.drawing_places.proofs.names.spot_in.Given as goal

abbrev pub invariant-loop-statement : goal.invariant-loop-statement
invariant-loop-statement l =
    first_found (spot_in_statement (sought_seen l.wanted)) (trees (drop l.statement-index l.statements))
    ≡ first_found (spot_in_statement (sought_seen l.wanted)) (trees l.statements)
