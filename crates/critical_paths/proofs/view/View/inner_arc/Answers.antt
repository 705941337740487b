use Rattle.std.proofs.Common.{sym, ◌∙◌}
use Rattle.std.specs.Option.{option_map}
use Rattle.scald_base.specs.Time.{period}
use Rattle.fixpoint_engine.specs.Waves.{waves_of}
use Rattle.critical_paths.specs.declared.direction.Direction.TheVariants.{Rise, Fall}
use Rattle.critical_paths.specs.Tick.{slot_of}
use Rattle.critical_paths.specs.Views.{arc_with_word}
use Rattle.critical_paths.proofs.Cutting.{inner_is, left, taken}
use Rattle.critical_paths.proofs.view.View.inner_arc.Goals as goal

pub returns-then-is_some : goal.returns-then-is_some
returns-then-is_some g c =
    let circuit = c.args.self.now.circuit.now in
    let ws = waves_of c.args.self.now.waves.now in
    let asked = c.args.asked in
    let j = asked.element.now in
    let p = period circuit.header in
    λ s two.
    taken arc_with_word c.in_ok-rise.rise _ _ (sym c.is_some.ensures ∙ c.if-is_some.true)
    (inner_is circuit ws j asked.corner s two asked.direction (slot_of p asked.tick) Rise
    (option_map arc_with_word c.in_ok-rise.rise) c.in_ok-rise.ensures)

pub returns : goal.returns
returns g c =
    let circuit = c.args.self.now.circuit.now in
    let ws = waves_of c.args.self.now.waves.now in
    let asked = c.args.asked in
    let j = asked.element.now in
    let p = period circuit.header in
    λ s two.
    left arc_with_word c.in_ok-rise.rise _ _ _ (sym c.is_some.ensures ∙ c.if-is_some.false)
    (inner_is circuit ws j asked.corner s two asked.direction (slot_of p asked.tick) Rise
    (option_map arc_with_word c.in_ok-rise.rise) c.in_ok-rise.ensures)
    (inner_is circuit ws j asked.corner s two asked.direction (slot_of p asked.tick) Fall
    (option_map arc_with_word c.in_ok-fall.fall) c.in_ok-fall.ensures)
