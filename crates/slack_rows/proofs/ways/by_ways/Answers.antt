use Rattle.slack_rows.proofs.Launching.{goes_then}
use Rattle.slack_rows.proofs.ways.by_ways.Goals as goal

pub returns-clause-paths : goal.returns-clause-paths
returns-clause-paths g c = goes_then _ _ _ _ _ c.in_ok-late.ensures.paths c.in_ok-found.ensures.paths
