use Rattle.scald_base.specs.Time.{period}
use Rattle.fixpoint_engine.specs.Pins.{read}
use Rattle.critical_paths.specs.declared.direction.Direction.TheVariants.{Rise, Fall}
use Rattle.slack_rows.proofs.Marking.{two_directions}
use Rattle.slack_rows.proofs.Launching.{goes_then}
use Rattle.slack_rows.proofs.assertion.both_steps.Goals as goal

pub returns-clause-finding : goal.returns-clause-finding
returns-clause-finding g c =
    two_directions (period c.args.view.now.circuit.now.header) (read (g.W.CyclicWave.cells c.args.fold.now))
    (read (g.W.CyclicWave.cells c.args.wide.now)) Rise Fall c.in_ok-rises.rises c.in_ok-falls.falls c.lesser.result
    c.in_ok-rises.ensures.finding c.in_ok-falls.ensures.finding c.lesser.ensures.level c.lesser.ensures.before c.lesser.ensures.after

pub returns-clause-paths : goal.returns-clause-paths
returns-clause-paths g c = goes_then _ _ _ _ _ c.in_ok-rises.ensures.paths c.in_ok-falls.ensures.paths
