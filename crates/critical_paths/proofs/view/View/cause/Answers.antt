use Rattle.std.proofs.Common.{◌≡◌, ◌+◌, to_z, of_z, w64, true, false, length, ap, sym, subst, ◌∙◌, arith}
use Rattle.std.proofs.lemmas.Int.{ints}
use Rattle.std.specs.List.{All}
use Rattle.std.specs.Option.{option_map}
use Rattle.std.proofs.lemmas.List.Elements.{All-get_or}
use Rattle.critical_paths.specs.Views.{IsPin, MayHold, cause_with}
use Rattle.critical_paths.proofs.Pins.{few_pins, may_hold, pins_exist}
use Rattle.scald_base.specs.Time.{period}
use Rattle.fixpoint_engine.specs.Waves.{waves_of}
use Rattle.critical_paths.specs.Tick.{slot_of}
use Rattle.critical_paths.proofs.Causing.{AreFirst, asked_is, best_is, heard_as, with_pin, without_pin}
use Rattle.critical_paths.proofs.view.View.cause.Goals as goal
use Rattle.critical_paths.proofs.view.View.cause.Goals.{then-is_heard, else-is_heard}

pub loop-place-preserved : goal.loop-place-preserved
loop-place-preserved g c =
    let circuit = c.args.self.now.circuit.now in
    let ws = waves_of c.args.self.now.waves.now in
    let j = c.args.asked.element.now in
    let corner = c.args.asked.corner in
    let d = c.args.asked.direction in
    let p = slot_of (period circuit.header) c.args.asked.tick in
    let n = c.loop-place.place in
    let old = c.loop-place.found in
    let held = c.held_pin-held.result in
    let test = c.loop-place-test.true in
    let at : to_z w64 (of_z w64 c.args.asked.tick) ≡ c.args.asked.tick = omega (arith, ints) in
    let slot_is = ap (slot_of (period circuit.header)) at in
    elim c.if-is_heard.branch [
      | then-is_heard w ↦
          let heard = heard_as circuit ws j corner d p n held c.is_heard.result true
          c.held_pin-held.ensures c.is_heard.ensures w.if-is_heard.true in
          subst (AreFirst circuit ws j corner d p (n + 1)) (sym w.found-is)
          (with_pin circuit ws j corner d p n old w.with-found.result w.made_by-made.result
          w.ended_by-ended.result c.loop-place.invariant
          (asked_is circuit ws j corner d p n w.made_by-made.result w.ended_by-ended.result held
          c.as_slice-pins.result.now
          (slot_of (period circuit.header) (to_z w64 (of_z w64 c.args.asked.tick)))
          c.as_slice-shown.result.now _ _
          c.as_slice-pins.ensures slot_is test heard c.held_pin-held.ensures
          (c.as_slice-shown.ensures ∙ c.in_ok-values.ensures) w.made_by-made.ensures.rises
          w.made_by-made.ensures.falls
          w.ended_by-ended.ensures.rises w.ended_by-ended.ensures.falls)
          w.with-found.ensures.whole w.with-found.ensures.part w.with-found.ensures.bound
          w.with-found.ensures.loose)
      | else-is_heard w ↦
          let unheard = heard_as circuit ws j corner d p n held c.is_heard.result false
          c.held_pin-held.ensures c.is_heard.ensures w.if-is_heard.false in
          subst (AreFirst circuit ws j corner d p (n + 1)) (sym w.found-is)
          (without_pin circuit ws j corner d p n old c.loop-place.invariant unheard)
    ]

pub made_by-made-requires-clause-held : goal.made_by-made-requires-clause-held
made_by-made-requires-clause-held g c =
    let circuit = c.args.self.now.circuit.now in
    let j = c.args.asked.element.now in
    subst (λ h. MayHold h j.kind) (sym c.held_pin-held.ensures)
    (may_hold circuit (waves_of c.args.self.now.waves.now) c.args.asked.number j
    c.requires.sees.circuit c.requires.is)

pub ended_by-ended-requires-clause-pin : goal.ended_by-ended-requires-clause-pin
ended_by-ended-requires-clause-pin g c =
    let circuit = c.args.self.now.circuit.now in
    let j = c.args.asked.element.now in
    let long = ap length c.as_slice-pins.ensures in
    let test = c.loop-place-test.true in
    All-get_or (IsPin circuit) c.as_slice-pins.result.now c.loop-place.place _ test
    (subst (All (IsPin circuit)) (sym c.as_slice-pins.ensures)
    (pins_exist circuit c.args.asked.number j c.requires.sees.circuit c.requires.is))

pub overflow_cast-place : goal.overflow_cast-place
overflow_cast-place g c =
    let few = few_pins c.args.self.now.circuit.now c.args.asked.number c.args.asked.element.now
    c.requires.sees.circuit c.requires.is in
    let long = ap length c.as_slice-pins.ensures in
    let test = c.loop-place-test.true in
    omega (arith, few, long, test)

pub returns : goal.returns
returns g c =
    let circuit = c.args.self.now.circuit.now in
    let ws = waves_of c.args.self.now.waves.now in
    let j = c.args.asked.element.now in
    let corner = c.args.asked.corner in
    let d = c.args.asked.direction in
    let p = slot_of (period circuit.header) c.args.asked.tick in
    let long = ap length c.as_slice-pins.ensures in
    let past = c.loop-place-test.false in
    let within = c.loop-place.auto.place-end in
    let all : c.loop-place.place ≡ length j.pins = omega (arith, long, past, within) in
    best_is circuit ws j corner d p c.loop-place.found (option_map cause_with c.best.result)
    (subst (λ n. AreFirst circuit ws j corner d p n c.loop-place.found) all c.loop-place.invariant)
    c.best.ensures
