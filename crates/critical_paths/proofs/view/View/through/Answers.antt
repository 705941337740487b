use Rattle.std.proofs.Common.{◌≡◌, ◌<◌, ◌≤◌, ℤ, pos, ◌-ℤ◌, to_z, of_z, w64, sym, ap, ◌∙◌, subst, arith}
use Rattle.std.specs.Option.{option_map}
use Rattle.std.proofs.lemmas.Int.{ints}
use Rattle.scald_base.specs.Clock.{back}
use Rattle.scald_base.specs.Time.{IsHeader, period}
use Rattle.fixpoint_engine.specs.Waves.{waves_of}
use Rattle.critical_paths.specs.declared.path.Passage.TheVariants.{Through}
use Rattle.critical_paths.specs.Event.{turned}
use Rattle.critical_paths.specs.Path.{before_pin}
use Rattle.critical_paths.specs.Tick.{slot_of}
use Rattle.critical_paths.specs.Views.{arc_with_word, before_of, behind, event_of, hidden}
use Rattle.critical_paths.proofs.Backing.{through_found, through_none}
use Rattle.critical_paths.proofs.Pins.{pin_found, pins_exist}
use Rattle.critical_paths.proofs.view.View.through.Goals as goal

pub behind-requires-clause-pin : goal.behind-requires-clause-pin
behind-requires-clause-pin g c =
    let circuit = c.args.self.now.circuit.now in
    let asked = c.args.asked in
    pin_found circuit asked.element.now.pins c.args.arc.cause.pin c.in_ok-pin.pin
    (pins_exist circuit asked.number asked.element.now c.requires.sees.circuit c.requires.is)
    (sym c.pin_at.ensures ∙ c.in_ok-pin.was)

pub returns-in_err-pin : goal.returns-in_err-pin
returns-in_err-pin g c =
    let circuit = c.args.self.now.circuit.now in
    let asked = c.args.asked in
    let arc = c.args.arc in
    ap (option_map (before_of (period circuit.header))) c.from_residual.ensures
    ∙ sym (ap (before_pin circuit (waves_of c.args.self.now.waves.now) asked.corner
    (back (period circuit.header) (slot_of (period circuit.header) asked.tick) arc.delay)
    (arc_with_word arc))
    (sym c.pin_at.ensures ∙ c.in_err-pin.was))

pub returns-in_err-behind : goal.returns-in_err-behind
returns-in_err-behind g c =
    let circuit = c.args.self.now.circuit.now in
    let ws = waves_of c.args.self.now.waves.now in
    let asked = c.args.asked in
    let arc = c.args.arc in
    let pin = c.in_ok-pin.pin in
    let known = subst IsHeader c.header.ensures c.known.ensures in
    let least : 2 ≤ period circuit.header = known.shortest in
    let some : 0 < period circuit.header = omega (arith, least) in
    let sooner : to_z w64 (of_z w64 c.sooner.result) ≡ asked.tick -ℤ pos arc.delay =
    omega (arith, ints, c.sooner.ensures) in
    ap (option_map (before_of (period circuit.header))) c.from_residual-in_err-behind.ensures
    ∙ through_none circuit ws asked.element.now asked.corner asked.tick (arc_with_word arc) pin some
    (sym c.pin_at.ensures ∙ c.in_ok-pin.was)
    (ap (option_map (hidden (period circuit.header))) (sym c.in_err-behind.was)
    ∙ c.behind.ensures.is
    ∙ ap (λ (t : ℤ). behind circuit ws asked.corner (slot_of (period circuit.header) t)
    (turned pin.inverted arc.cause.direction) pin.target) sooner)

pub returns : goal.returns
returns g c =
    let circuit = c.args.self.now.circuit.now in
    let ws = waves_of c.args.self.now.waves.now in
    let asked = c.args.asked in
    let arc = c.args.arc in
    let pin = c.in_ok-pin.pin in
    let known = subst IsHeader c.header.ensures c.known.ensures in
    let least : 2 ≤ period circuit.header = known.shortest in
    let some : 0 < period circuit.header = omega (arith, least) in
    let b = c.in_ok-behind.behind in
    let sooner : to_z w64 (of_z w64 c.sooner.result) ≡ asked.tick -ℤ pos arc.delay =
    omega (arith, ints, c.sooner.ensures) in
    through_found circuit ws asked.element.now asked.corner asked.tick (arc_with_word arc) pin some
    (sym c.pin_at.ensures ∙ c.in_ok-pin.was) (hidden (period circuit.header) b) _
    (ap (option_map (hidden (period circuit.header))) (sym c.in_ok-behind.was) ∙ c.behind.ensures.is
    ∙ ap (λ (t : ℤ). behind circuit ws asked.corner (slot_of (period circuit.header) t)
    (turned pin.inverted arc.cause.direction) pin.target) sooner)
    (ap (λ word. record {
      passage = Through arc.cause.pin b.wire arc.delay word;
      event = event_of (period circuit.header) b.event;
    }) c.word_by.ensures)
