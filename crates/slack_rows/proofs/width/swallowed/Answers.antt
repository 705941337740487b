use Rattle.std.proofs.Common.{sym, ap, ◌∙◌}
use Rattle.scald_base.specs.Signal.{turned}
use Rattle.std.specs.Prelude.{pos, ◌+ℤ◌}
use Rattle.std.specs.Option.{option_map}
use Rattle.scald_base.specs.Time.{Bounds}
use Rattle.flat_circuit.specs.Circuit.{driver}
use Rattle.fixpoint_engine.specs.Waves.{target_wire, waves_of}
use Rattle.slack_rows.specs.Pulse.{begins_in, begins_on, left_in, left_on}
use Rattle.slack_rows.proofs.Breadths.{begin_constant, begin_later, left_constant}
use Rattle.slack_rows.proofs.width.swallowed.Goals as goal

pub returns-in-Constant-clause-left : goal.returns-in-Constant-clause-left
returns-in-Constant-clause-left g c =
    left_constant c.args.view.now.circuit.now (waves_of c.args.view.now.waves.now) c.args.level c.in-Constant.field-0 c.args.pin c.in-Constant.is

pub returns-in_ok-found-in-Net-clause-left : goal.returns-in_ok-found-in-Net-clause-left
returns-in_ok-found-in-Net-clause-left g c =
    let d = c.args.view.now.circuit.now in
    let ws = waves_of c.args.view.now.waves.now in
    let pin = c.args.pin in
    c.after_wire-later.ensures.left
    ∙ c.in_ok-found-in-Net.ensures.left
    ∙ ap (λ level. left_in d ws level (driver d c.in-Net.net)) c.level_behind-behind.ensures
    ∙ sym (ap (left_on d ws (turned pin.inverted c.args.level)) c.in-Net.is)

pub returns-in-Constant-clause-begin : goal.returns-in-Constant-clause-begin
returns-in-Constant-clause-begin g c =
    begin_constant c.args.view.now.circuit.now (waves_of c.args.view.now.waves.now) c.args.level c.in-Constant.field-0 c.args.pin c.in-Constant.is

pub returns-in_ok-found-in-Net-clause-begin : goal.returns-in_ok-found-in-Net-clause-begin
returns-in_ok-found-in-Net-clause-begin g c =
    let d = c.args.view.now.circuit.now in
    let ws = waves_of c.args.view.now.waves.now in
    let pin = c.args.pin in
    let net = c.in-Net.net in
    c.after_wire-later.ensures.begin
    ∙ begin_later c.in_ok-found-in-Net.found c.wire.inside.min
    ∙ ap (option_map (λ begin. begin +ℤ pos c.wire.inside.min))
    (c.in_ok-found-in-Net.ensures.begin
    ∙ ap (λ level. begins_in d ws level (driver d net)) c.level_behind-behind.ensures)
    ∙ ap (λ (wire : Bounds). option_map (λ begin. begin +ℤ pos wire.min) (begins_in d ws (turned pin.inverted c.args.level) (driver d net)))
    (c.wire.view_is ∙ c.wire_behind-wire.ensures ∙ ap (target_wire d.nets) c.in-Net.is)
    ∙ sym (ap (begins_on d ws (turned pin.inverted c.args.level)) c.in-Net.is)
