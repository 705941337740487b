use Rattle.std.proofs.Common.{◌≡◌, to_z, of_z, w64, length, sym, ap, subst, ◌∙◌, arith}
use Rattle.std.specs.List.{All}
use Rattle.std.specs.Option.{option_map}
use Rattle.std.proofs.lemmas.Int.{ints}
use Rattle.scald_base.specs.Time.{period}
use Rattle.fixpoint_engine.specs.Waves.{waves_of}
use Rattle.critical_paths.specs.declared.event.Reading.TheVariants.{Unfolded}
use Rattle.critical_paths.specs.Tick.{slot_of}
use Rattle.critical_paths.specs.Views.{IsPin, MayHold, pins_shown}
use Rattle.critical_paths.proofs.Ending.{counts_fit, own_causes}
use Rattle.critical_paths.proofs.Pins.{few_pins, long_shown, may_hold, pins_exist}
use Rattle.critical_paths.proofs.view.View.own_cause.Goals as goal

pub pin_values-requires-clause-pins : goal.pin_values-requires-clause-pins
pin_values-requires-clause-pins g c =
    let circuit = c.args.self.now.circuit.now in
    subst (All (IsPin circuit)) (sym c.as_slice-pins.ensures)
    (pins_exist circuit c.args.asked.number c.args.asked.element.now c.requires.sees.circuit
    c.requires.is)

pub made_by-made-requires-clause-pin : goal.made_by-made-requires-clause-pin
made_by-made-requires-clause-pin g c =
    let long = long_shown c.args.self.now.circuit.now
    (waves_of c.args.self.now.waves.now) c.as_slice-pins.result.now Unfolded _
    c.as_slice-shown.result.now (c.as_slice-shown.ensures ∙ c.in_ok-values.ensures) in
    let pins = ap length c.as_slice-pins.ensures in
    let below = c.requires.place in
    omega (arith, long, pins, below)

pub made_by-made-requires-clause-count : goal.made_by-made-requires-clause-count
made_by-made-requires-clause-count g c =
    let circuit = c.args.self.now.circuit.now in
    let ws = waves_of c.args.self.now.waves.now in
    counts_fit circuit ws c.args.asked.number c.args.asked.element.now _
    c.as_slice-shown.result.now c.requires.sees.circuit c.requires.is
    (c.as_slice-shown.ensures ∙ c.in_ok-values.ensures
    ∙ ap (λ (pins : _). pins_shown circuit ws pins Unfolded
    (slot_of (period circuit.header) (to_z w64 (of_z w64 c.args.asked.tick))))
    c.as_slice-pins.ensures)

pub made_by-made-requires-clause-held : goal.made_by-made-requires-clause-held
made_by-made-requires-clause-held g c =
    let circuit = c.args.self.now.circuit.now in
    let j = c.args.asked.element.now in
    subst (λ h. MayHold h j.kind) (sym c.requires.held)
    (may_hold circuit (waves_of c.args.self.now.waves.now) c.args.asked.number j
    c.requires.sees.circuit c.requires.is)

pub overflow_cast-place : goal.overflow_cast-place
overflow_cast-place g c =
    let few = few_pins c.args.self.now.circuit.now c.args.asked.number c.args.asked.element.now
    c.requires.sees.circuit c.requires.is in
    let below = c.requires.place in
    omega (arith, few, below)

pub returns : goal.returns
returns g c =
    let circuit = c.args.self.now.circuit.now in
    let ws = waves_of c.args.self.now.waves.now in
    let asked = c.args.asked in
    let j = asked.element.now in
    let p = period circuit.header in
    let at : to_z w64 (of_z w64 asked.tick) ≡ asked.tick = omega (arith, ints) in
    let shown_is = c.as_slice-shown.ensures ∙ c.in_ok-values.ensures
    ∙ (λ i. pins_shown circuit ws (c.as_slice-pins.ensures i) Unfolded (slot_of p (at i))) in
    c.cause_towards.ensures
    ∙ ap (option_map (λ d. record { pin = c.args.place; direction = d }))
    (c.one_of-direction.ensures
    ∙ own_causes circuit ws j asked.direction
    (slot_of p asked.tick) c.args.place c.args.held c.as_slice-shown.result.now
    c.made_by-made.result.0 c.made_by-made.result.1 c.requires.held shown_is
    c.made_by-made.ensures.rises c.made_by-made.ensures.falls)
