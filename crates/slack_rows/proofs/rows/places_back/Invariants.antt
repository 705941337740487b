use Rattle.slack_rows.proofs.Beginning.{Leads}
use Rattle.slack_rows.proofs.rows.places_back.Given as goal

abbrev pub invariant-loop : goal.invariant-loop
invariant-loop l = Leads l.sets.keys l.set l.counter l.left l.places
