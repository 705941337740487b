use Rattle.slack_rows.proofs.Launching.{goes_same}
use Rattle.slack_rows.proofs.causes.net_paths.Goals as goal

pub returns-clause-paths : goal.returns-clause-paths
returns-clause-paths g c =
    let path = c.in_ok-path.ensures in
    goes_same _ _ _ _ path.knows path.grows path.known path.arrivals
