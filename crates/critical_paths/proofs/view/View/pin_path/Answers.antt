use Rattle.std.proofs.Common.{sym, ap, ◌∙◌}
use Rattle.std.specs.Option.{option_map}
use Rattle.scald_base.specs.Time.{period}
use Rattle.fixpoint_engine.specs.Waves.{waves_of}
use Rattle.critical_paths.specs.Tick.{slot_of}
use Rattle.critical_paths.specs.Views.{hidden}
use Rattle.critical_paths.proofs.PinPaths.{no_pin_path, pin_path_found}
use Rattle.critical_paths.proofs.view.View.pin_path.Goals as goal

pub returns-in_default-clause-path : goal.returns-in_default-clause-path
returns-in_default-clause-path g c =
    let circuit = c.args.self.now.circuit.now in
    let at = c.args.at in
    let p = period circuit.header in
    no_pin_path circuit (waves_of c.args.self.now.waves.now) at.corner (slot_of p at.tick)
    at.direction at.pin.inverted at.pin.target
    (sym (ap (option_map (hidden p)) c.in_default.is) ∙ c.behind.ensures.is)

pub returns-clause-path : goal.returns-clause-path
returns-clause-path g c =
    let circuit = c.args.self.now.circuit.now in
    let at = c.args.at in
    let p = period circuit.header in
    let found = c.in-Some.behind in
    pin_path_found circuit (waves_of c.args.self.now.waves.now) at.corner (slot_of p at.tick)
    at.direction at.pin.inverted at.pin.target
    (hidden p found) found.event.corner found.event.reading _ c.in-Some.ensures.is
    c.in-Some.ensures.corner c.in-Some.ensures.reading
    c.in_ok-path.ensures.path
