use Rattle.std.proofs.Common.{◌≡◌, ℤ, to_z, of_z, w64, sym, ap, ◌∙◌, arith}
use Rattle.std.specs.Prelude.{is_some}
use Rattle.std.specs.Option.{option_map}
use Rattle.std.proofs.lemmas.Int.{ints}
use Rattle.scald_base.specs.Time.{period}
use Rattle.fixpoint_engine.specs.Waves.{waves_of}
use Rattle.critical_paths.specs.declared.direction.Direction.{Direction}
use Rattle.critical_paths.specs.Path.{is_event}
use Rattle.critical_paths.specs.Tick.{slot_of}
use Rattle.critical_paths.specs.Views.{arc_with_word}
use Rattle.critical_paths.proofs.Cutting.{cut_is, cut_not, some_mapped}
use Rattle.critical_paths.proofs.view.View.cuts.Goals as goal

pub returns-then-not-permits : goal.returns-then-not-permits
returns-then-not-permits g c =
    let circuit = c.args.self.now.circuit.now in
    let ws = waves_of c.args.self.now.waves.now in
    let asked = c.args.asked in
    let j = asked.element.now in
    let p = period circuit.header in
    let tick : to_z w64 (of_z w64 asked.tick) ≡ asked.tick = omega (arith, ints) in
    let may = ap (λ (t : ℤ). is_event circuit ws
    (record { net = c.args.net; direction = c.turned-direction.result; slot = slot_of p t })) tick
    ∙ ap (λ (d : Direction). is_event circuit ws
    (record { net = c.args.net; direction = d; slot = slot_of p asked.tick }))
    c.turned-direction.ensures in
    λ s after two.
    cut_not circuit ws j asked.corner s two c.args.net asked.direction after (slot_of p asked.tick)
    (sym may ∙ sym c.permits.ensures ∙ c.if-not-permits.true)

pub returns : goal.returns
returns g c =
    let circuit = c.args.self.now.circuit.now in
    let ws = waves_of c.args.self.now.waves.now in
    let asked = c.args.asked in
    let j = asked.element.now in
    let p = period circuit.header in
    let tick : to_z w64 (of_z w64 asked.tick) ≡ asked.tick = omega (arith, ints) in
    let may = ap (λ (t : ℤ). is_event circuit ws
    (record { net = c.args.net; direction = c.turned-direction.result; slot = slot_of p t })) tick
    ∙ ap (λ (d : Direction). is_event circuit ws
    (record { net = c.args.net; direction = d; slot = slot_of p asked.tick }))
    c.turned-direction.ensures in
    λ s after two.
    c.is_some.ensures ∙ some_mapped arc_with_word c.tight-making.result
    ∙ ap is_some c.tight-making.ensures
    ∙ cut_is circuit ws j asked.corner s two c.args.net asked.direction after (slot_of p asked.tick)
    (option_map arc_with_word c.in_ok-found.found) c.requires.step
    (sym may ∙ sym c.permits.ensures ∙ c.if-not-permits.false) c.in_ok-found.ensures
