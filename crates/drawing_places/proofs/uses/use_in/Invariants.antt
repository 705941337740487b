use Rattle.std.proofs.Common.{◌≡◌, drop}
use Rattle.drawing_places.specs.Body.{trees}
use Rattle.drawing_places.specs.Find.{first_found}
use Rattle.drawing_places.specs.Uses.{use_labelled}
use Rattle.drawing_places.proofs.uses.use_in.Given as goal

abbrev pub invariant-loop-statement : goal.invariant-loop-statement
invariant-loop-statement l =
    first_found (use_labelled l.label) (trees (drop l.statement-index l.statements)) ≡ first_found (use_labelled l.label) (trees l.statements)
