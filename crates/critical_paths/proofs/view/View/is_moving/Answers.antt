use Rattle.std.proofs.Common.{not, ◌&&◌, Some, None, refl, sym, ap, ◌∙◌}
use Rattle.std.specs.Prelude.{slice_get}
use Rattle.std.proofs.Math.Bool.{and-false}
use Rattle.scald_base.specs.Time.{period}
use Rattle.fixpoint_engine.specs.Waves.{waves_of}
use Rattle.critical_paths.specs.Unfolded.{moves_ever}
use Rattle.critical_paths.proofs.Ending.{moving_is}
use Rattle.critical_paths.proofs.Pins.{pin_found, pins_exist}
use Rattle.critical_paths.proofs.view.View.is_moving.Goals as goal

pub is_steady-requires-clause-pin : goal.is_steady-requires-clause-pin
is_steady-requires-clause-pin g c =
    let circuit = c.args.self.now.circuit.now in
    let asked = c.args.asked in
    pin_found circuit asked.element.now.pins c.args.place c.in-Some.pin
    (pins_exist circuit asked.number asked.element.now c.requires.sees.circuit c.requires.is)
    (sym c.in-Some.ensures)

pub returns-then-not-is_heard : goal.returns-then-not-is_heard
returns-then-not-is_heard g c =
    let circuit = c.args.self.now.circuit.now in
    let ws = waves_of c.args.self.now.waves.now in
    let asked = c.args.asked in
    let j = asked.element.now in
    let p = period circuit.header in
    ap (λ b. b && moves_ever circuit.header ws (slice_get j.pins c.args.place))
    (sym c.if-not-is_heard.true)
    ∙ moving_is circuit ws j c.args.place c.args.held c.is_heard.result
    (slice_get j.pins c.args.place) c.is_heard.ensures c.requires.held refl

pub returns-in-Some : goal.returns-in-Some
returns-in-Some g c =
    let circuit = c.args.self.now.circuit.now in
    let ws = waves_of c.args.self.now.waves.now in
    let asked = c.args.asked in
    let j = asked.element.now in
    let p = period circuit.header in
    ap not c.is_steady.ensures
    ∙ ap (λ b. b && moves_ever circuit.header ws (Some c.in-Some.pin)) (sym c.if-not-is_heard.false)
    ∙ moving_is circuit ws j c.args.place c.args.held c.is_heard.result
    (Some c.in-Some.pin) c.is_heard.ensures c.requires.held c.in-Some.ensures

pub returns-in-None : goal.returns-in-None
returns-in-None g c =
    let circuit = c.args.self.now.circuit.now in
    let ws = waves_of c.args.self.now.waves.now in
    let asked = c.args.asked in
    let j = asked.element.now in
    let p = period circuit.header in
    sym (and-false c.is_heard.result)
    ∙ moving_is circuit ws j c.args.place c.args.held c.is_heard.result None c.is_heard.ensures
    c.requires.held c.in-None.ensures
