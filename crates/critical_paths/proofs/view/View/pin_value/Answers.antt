use Rattle.std.proofs.Common.{◌≡◌, ◌<◌, ◌≤◌, to_z, of_z, w64, true, false, refl, ap, ◌∙◌, subst, arith}
use Rattle.std.proofs.lemmas.Int.{ints}
use Rattle.scald_base.specs.Time.{IsHeader, period}
use Rattle.fixpoint_engine.specs.Waves.{waves_of}
use Rattle.critical_paths.specs.Tick.{slot_of}
use Rattle.critical_paths.specs.Views.{shown, target_shown}
use Rattle.critical_paths.proofs.Pins.{target_exists}
use Rattle.critical_paths.proofs.Showing.{pin_shown}
use Rattle.critical_paths.proofs.Ticks.{slot_lt}
use Rattle.critical_paths.proofs.view.View.pin_value.Goals as goal

pub returns-then-pin : goal.returns-then-pin
returns-then-pin g c =
    let circuit = c.args.self.now.circuit.now in
    let at : to_z w64 (of_z w64 c.args.tick) ≡ c.args.tick = omega (arith, ints) in
    let shows = c.target_value-value.ensures
    ∙ ap (λ t. shown c.args.reading (target_shown circuit (waves_of c.args.self.now.waves.now)
    c.args.pin.target) (slot_of (period circuit.header) t)) at in
    let known = subst IsHeader c.header.ensures c.known.ensures in
    let least : 2 ≤ period circuit.header = known.shortest in
    let some : 0 < period circuit.header = omega (arith, least) in
    pin_shown circuit (waves_of c.args.self.now.waves.now) c.args.pin true c.args.reading
    (slot_of (period circuit.header) c.args.tick)
    c.target_value-value.result c.flip.result c.requires.sees.fit.each_slot
    (target_exists circuit c.args.pin c.requires.pin)
    (slot_lt (period circuit.header) c.args.tick some) c.if-pin.true shows c.flip.ensures

pub returns-else-pin : goal.returns-else-pin
returns-else-pin g c =
    let circuit = c.args.self.now.circuit.now in
    let at : to_z w64 (of_z w64 c.args.tick) ≡ c.args.tick = omega (arith, ints) in
    let shows = c.target_value-value.ensures
    ∙ ap (λ t. shown c.args.reading (target_shown circuit (waves_of c.args.self.now.waves.now)
    c.args.pin.target) (slot_of (period circuit.header) t)) at in
    let known = subst IsHeader c.header.ensures c.known.ensures in
    let least : 2 ≤ period circuit.header = known.shortest in
    let some : 0 < period circuit.header = omega (arith, least) in
    pin_shown circuit (waves_of c.args.self.now.waves.now) c.args.pin false c.args.reading
    (slot_of (period circuit.header) c.args.tick)
    c.target_value-value.result c.target_value-value.result c.requires.sees.fit.each_slot
    (target_exists circuit c.args.pin c.requires.pin)
    (slot_lt (period circuit.header) c.args.tick some) c.if-pin.false shows refl
