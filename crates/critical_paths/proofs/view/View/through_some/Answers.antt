use Rattle.std.proofs.Common.{sym, ap, ◌∙◌}
use Rattle.std.specs.Option.{option_and_then, option_map}
use Rattle.scald_base.specs.Time.{period}
use Rattle.fixpoint_engine.specs.Waves.{waves_of}
use Rattle.critical_paths.specs.Path.{before_arc}
use Rattle.critical_paths.specs.Tick.{slot_of}
use Rattle.critical_paths.specs.Views.{arc_with_word, before_of}
use Rattle.critical_paths.proofs.view.View.through_some.Goals as goal

pub returns-in_err-found : goal.returns-in_err-found
returns-in_err-found g c =
    let circuit = c.args.self.now.circuit.now in
    let asked = c.args.asked in
    ap (option_map (before_of (period circuit.header))) c.from_residual.ensures
    ∙ ap (λ found. option_and_then (before_arc circuit (waves_of c.args.self.now.waves.now)
    asked.element.now asked.corner
    (slot_of (period circuit.header) asked.tick)) (option_map arc_with_word found))
    (sym c.in_err-found.was)

pub returns : goal.returns
returns g c =
    let circuit = c.args.self.now.circuit.now in
    let asked = c.args.asked in
    c.through.ensures
    ∙ ap (λ found. option_and_then (before_arc circuit (waves_of c.args.self.now.waves.now)
    asked.element.now asked.corner
    (slot_of (period circuit.header) asked.tick)) (option_map arc_with_word found))
    (sym c.in_ok-found.was)
