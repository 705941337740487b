use Rattle.critical_paths.specs.Event.{other_corner}
use Rattle.slack_rows.proofs.Launching.{explains_stays, goes_then}
use Rattle.slack_rows.proofs.Pathing.{is_held}
use Rattle.slack_rows.proofs.causes.held_paths.Goals as goal

pub edge_path-requires-clause-held : goal.edge_path-requires-clause-held
edge_path-requires-clause-held g c =
    is_held c.args.view.now.circuit.now c.args.instance.now.pins c.in-Some.held c.requires.pins
    c.in-Some.ensures.pin c.in-Some.ensures.clock

pub data_path-requires-clause-held : goal.data_path-requires-clause-held
data_path-requires-clause-held g c =
    is_held c.args.view.now.circuit.now c.args.instance.now.pins c.in-Some.held c.requires.pins
    c.in-Some.ensures.pin c.in-Some.ensures.clock

pub returns-clause-corner : goal.returns-clause-corner
returns-clause-corner g c =
    explains_stays _ _ (other_corner c.args.corner) c.in_ok-clock.clock
    c.in_ok-data.ensures.paths.grows c.in_ok-clock.ensures.corner

pub returns-clause-paths : goal.returns-clause-paths
returns-clause-paths g c = goes_then _ _ _ _ _ c.in_ok-clock.ensures.paths c.in_ok-data.ensures.paths
