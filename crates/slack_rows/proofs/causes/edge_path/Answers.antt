use Rattle.std.proofs.Common.{sym, ap, subst, ◌∙◌}
use Rattle.critical_paths.specs.declared.event.PinEvent.{PinEvent}
use Rattle.critical_paths.specs.Event.{other_corner}
use Rattle.critical_paths.specs.Views.{IsPin}
use Rattle.fixpoint_engine.specs.Waves.{waves_of}
use Rattle.slack_rows.specs.Shown.{IsPathOf}
use Rattle.slack_rows.proofs.Launching.{explains_found, goes_same}
use Rattle.slack_rows.proofs.Pathing.{step_corner, step_pin}
use Rattle.slack_rows.proofs.causes.edge_path.Goals as goal

pub pin_path-requires-clause-pin : goal.pin_path-requires-clause-pin
pin_path-requires-clause-pin g c =
    let held = c.args.held in
    let against = c.requires.held in
    subst (IsPin c.args.view.now.circuit.now)
    (sym (ap (λ (e : PinEvent). e.pin) c.edge.ensures ∙ step_pin held c.args.window c.args.corner))
    against.clock

pub returns-clause-corner : goal.returns-clause-corner
returns-clause-corner g c =
    let corner = c.args.corner in
    let asked = ap (λ (e : PinEvent). e.corner) c.edge.ensures
    ∙ step_corner c.args.held c.args.window corner in
    explains_found _ c.edge.result.corner (other_corner corner) c.in_ok-path.path asked
    c.in_ok-path.ensures.corner

pub returns-clause-is : goal.returns-clause-is
returns-clause-is g c =
    subst (λ (e : PinEvent). IsPathOf c.args.view.now.circuit.now
    (waves_of c.args.view.now.waves.now) c.pin_path.new.paths.nodes e c.in_ok-path.path)
    c.edge.ensures c.in_ok-path.ensures.path

pub returns-clause-paths : goal.returns-clause-paths
returns-clause-paths g c =
    let path = c.in_ok-path.ensures in
    goes_same _ _ _ _ path.knows path.grows path.known path.arrivals
