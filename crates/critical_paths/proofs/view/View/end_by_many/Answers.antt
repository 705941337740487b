use Rattle.std.proofs.Common.{ap, ◌∙◌}
use Rattle.std.specs.Option.{option_and_then, option_map}
use Rattle.scald_base.specs.Time.{period}
use Rattle.fixpoint_engine.specs.Waves.{waves_of}
use Rattle.critical_paths.specs.Path.{arc_inward, before_arc}
use Rattle.critical_paths.specs.Tick.{slot_of}
use Rattle.critical_paths.specs.Unfolded.{by_folds, with_word}
use Rattle.critical_paths.proofs.Ending.{then_mapped}
use Rattle.critical_paths.proofs.view.View.end_by_many.Goals as goal

pub returns : goal.returns
returns g c =
    let circuit = c.args.self.now.circuit.now in
    let ws = waves_of c.args.self.now.waves.now in
    let asked = c.args.asked in
    let j = asked.element.now in
    let p = period circuit.header in
    let q = slot_of p asked.tick in
    c.folded.ensures p
    ∙ ap (option_map by_folds) (c.through_some-back.ensures
    ∙ ap (option_and_then (before_arc circuit ws j asked.corner q)) (c.many_arc-noted.ensures
    ∙ ap (option_map (with_word j.split)) c.in_ok-found.ensures)
    ∙ then_mapped (before_arc circuit ws j asked.corner q) (with_word j.split)
    (arc_inward circuit ws j asked.corner asked.direction q c.args.delay 0))
