use Rattle.std.proofs.Common.{sym, ap, ◌∙◌}
use Rattle.std.specs.Option.{option_and_then}
use Rattle.scald_base.specs.Time.{period}
use Rattle.fixpoint_engine.specs.Waves.{waves_of}
use Rattle.critical_paths.specs.Path.{before_arc}
use Rattle.critical_paths.specs.Tick.{slot_of}
use Rattle.critical_paths.specs.Views.{event_of}
use Rattle.critical_paths.proofs.Cutting.{one_before, gone}
use Rattle.critical_paths.proofs.view.View.back.Goals as goal

pub returns : goal.returns
returns g c =
    let circuit = c.args.self.now.circuit.now in
    let ws = waves_of c.args.self.now.waves.now in
    let asked = c.args.asked in
    let j = asked.element.now in
    let p = period circuit.header in
    let event = c.args.event in
    let q = slot_of p asked.tick in
    c.through_some-found.ensures
    ∙ ap (option_and_then (before_arc circuit ws j asked.corner q)) c.in_ok-arc.ensures
    ∙ one_before circuit ws j asked.corner (event_of p event) asked.direction q c.requires.event.own
    (ap (slot_of p) c.requires.event.same_tick)
    (gone j.split (sym c.is_some.ensures ∙ c.if-is_some.false))
