use Rattle.std.proofs.Common.{◌≡◌, replicate, None}
use Rattle.slack_rows.proofs.rows.none_yet.Given as goal

abbrev pub invariant-loop : goal.invariant-loop
invariant-loop l = l.least ≡ replicate l.counter None
