use Rattle.std.proofs.Common.{◌<◌, arith}
use Rattle.scald_base.specs.Time.{period}
use Rattle.fixpoint_engine.specs.Waves.{waves_of}
use Rattle.slack_rows.proofs.Launching.{found_edge, found_near, goes_same}
use Rattle.slack_rows.proofs.launch.step_path.Goals as goal

pub returns-clause-paths : goal.returns-clause-paths
returns-clause-paths g c =
    let found = c.in_ok-found.ensures in
    goes_same _ _ _ _ found.knows found.grows found.known found.arrivals

pub returns-clause-near : goal.returns-clause-near
returns-clause-near g c = found_near _ c.in_ok-found.found _ c.in_ok-found.ensures.path c.in_ok-found.ensures.short

pub returns-clause-edge : goal.returns-clause-edge
returns-clause-edge g c =
    let circuit = c.args.view.now.circuit.now in
    let is = c.period-period.ensures.is in
    let shortest = c.period-period.ensures.shortest in
    let some : 0 < period circuit.header = omega (arith, is, shortest) in
    let step = c.args.step in
    found_edge circuit (waves_of c.args.view.now.waves.now) some step.corner step.pin step.direction step.tick c.requires.from _ c.in_ok-found.found
    c.in_ok-found.ensures.path c.in_ok-found.ensures.tick c.in_ok-found.ensures.edge
