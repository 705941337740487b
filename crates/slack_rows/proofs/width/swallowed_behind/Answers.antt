use Rattle.std.proofs.Common.{sym, ap, ◌∙◌}
use Rattle.flat_circuit.specs.Split.{two_delays}
use Rattle.fixpoint_engine.specs.Waves.{waves_of}
use Rattle.slack_rows.specs.Pulse.{begins_by, begins_in, left_by, left_in}
use Rattle.slack_rows.proofs.Breadths.{driver_fits}
use Rattle.slack_rows.proofs.width.swallowed_behind.Goals as goal

pub swallowed_by-requires-clause-fits : goal.swallowed_by-requires-clause-fits
swallowed_by-requires-clause-fits g c =
    driver_fits c.args.view.now.circuit.now c.args.net c.in-Some.element.now c.requires.sees.circuit (sym c.in-Some.ensures)

pub returns-in-None-clause-left : goal.returns-in-None-clause-left
returns-in-None-clause-left g c =
    ap (left_in c.args.view.now.circuit.now (waves_of c.args.view.now.waves.now) c.args.level) c.in-None.ensures

pub returns-in_ok-found-in-Some-clause-left : goal.returns-in_ok-found-in-Some-clause-left
returns-in_ok-found-in-Some-clause-left g c =
    let d = c.args.view.now.circuit.now in
    let ws = waves_of c.args.view.now.waves.now in
    let j = c.in-Some.element.now in
    c.in_ok-found-in-Some.ensures.left
    ∙ ap (λ own. left_by d ws j own (two_delays j.kind j.split)) c.level_behind-own.ensures
    ∙ ap (left_in d ws c.args.level) c.in-Some.ensures

pub returns-in-None-clause-begin : goal.returns-in-None-clause-begin
returns-in-None-clause-begin g c =
    ap (begins_in c.args.view.now.circuit.now (waves_of c.args.view.now.waves.now) c.args.level) c.in-None.ensures

pub returns-in_ok-found-in-Some-clause-begin : goal.returns-in_ok-found-in-Some-clause-begin
returns-in_ok-found-in-Some-clause-begin g c =
    let d = c.args.view.now.circuit.now in
    let ws = waves_of c.args.view.now.waves.now in
    let j = c.in-Some.element.now in
    c.in_ok-found-in-Some.ensures.begin
    ∙ ap (λ own. begins_by d ws j own (two_delays j.kind j.split)) c.level_behind-own.ensures
    ∙ ap (begins_in d ws c.args.level) c.in-Some.ensures
