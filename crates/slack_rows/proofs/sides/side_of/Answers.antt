use Rattle.std.proofs.Common.{sym, ◌∙◌}
use Rattle.scald_base.specs.Time.{period}
use Rattle.fixpoint_engine.specs.Waves.{waves_of}
use Rattle.slack_rows.specs.Views.{window_in}
use Rattle.slack_rows.specs.Held.{side_held, two_of}
use Rattle.slack_rows.proofs.Lying.{lies_by_its_ends, lies_by_launch}
use Rattle.slack_rows.proofs.sides.side_of.Goals as goal

pub returns-in-Some-clause-lies : goal.returns-in-Some-clause-lies
returns-in-Some-clause-lies g c =
    let circuit = c.args.view.now.circuit.now in
    let ws = waves_of c.args.view.now.waves.now in
    let w = window_in (period circuit.header) c.args.window in
    lies_by_its_ends (period circuit.header) c.args.window c.args.region c.requires.window c.requires.region
    (side_held circuit ws c.args.held w) (two_of circuit ws c.args.held w) c.in-Some.side (sym c.side_by_ends.ensures ∙ c.in-Some.is)

pub returns-clause-lies : goal.returns-clause-lies
returns-clause-lies g c =
    let circuit = c.args.view.now.circuit.now in
    let ws = waves_of c.args.view.now.waves.now in
    let w = window_in (period circuit.header) c.args.window in
    lies_by_launch (period circuit.header) c.args.window c.args.region c.requires.window c.requires.region
    (side_held circuit ws c.args.held w) (two_of circuit ws c.args.held w) c.in_ok-side.side (sym c.side_by_ends.ensures ∙ c.in_default.is)
    c.in_ok-side.ensures.side c.in_ok-side.ensures.two c.in_ok-side.ensures.met
