use Rattle.std.proofs.Common.{ap, ◌∙◌, Some}
use Rattle.std.specs.Option.{option_and_then}
use Rattle.scald_base.specs.Time.{Bounds, period}
use Rattle.fixpoint_engine.specs.Waves.{waves_of}
use Rattle.critical_paths.specs.Tick.{slot_of}
use Rattle.critical_paths.specs.Unfolded.{end_delay, open_before, read_by}
use Rattle.critical_paths.specs.Views.{end_asked}
use Rattle.critical_paths.proofs.view.View.end_back.Goals as goal

pub returns : goal.returns
returns g c =
    let circuit = c.args.self.now.circuit.now in
    let ws = waves_of c.args.self.now.waves.now in
    let asked = c.args.asked in
    let j = asked.element.now in
    let p = period circuit.header in
    let q = slot_of p asked.tick in
    c.own_back-back.ensures
    ∙ ap (option_and_then (open_before circuit j q)) c.in_ok-found.ensures
    ∙ ap (λ (b : Bounds). read_by circuit ws j (end_asked p asked b)
    (Some c.in-Some.place)) c.end_delay-delay.ensures
    ∙ ap (read_by circuit ws j (end_asked p asked (end_delay j.delay asked.direction j.split)))
    c.in-Some.ensures.is
