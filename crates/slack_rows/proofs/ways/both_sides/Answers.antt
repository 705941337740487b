use Rattle.slack_rows.proofs.Pathing.{stays_worked}
use Rattle.slack_rows.proofs.Launching.{goes_then}
use Rattle.slack_rows.proofs.ways.both_sides.Goals as goal

pub returns-clause-late : goal.returns-clause-late
returns-clause-late g c = λ k e at.
    stays_worked _ _ _ c.in_ok-work_out_all-2.ensures.stays (c.in_ok-work_out_all.ensures.known k e at)

pub returns-clause-paths : goal.returns-clause-paths
returns-clause-paths g c = goes_then _ _ _ _ _ c.in_ok-work_out_all.ensures.paths c.in_ok-work_out_all-2.ensures.paths
