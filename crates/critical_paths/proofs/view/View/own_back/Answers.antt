use Rattle.std.proofs.Common.{◌≡◌, ◌<◌, ◌≤◌, pos, ◌-ℤ◌, to_z, of_z, w64, sym, ap, subst, ◌∙◌, arith}
use Rattle.std.specs.Option.{option_and_then, option_map}
use Rattle.std.proofs.lemmas.Int.{ints}
use Rattle.scald_base.specs.Time.{Bounds, IsHeader, period}
use Rattle.fixpoint_engine.specs.Waves.{target_wire}
use Rattle.critical_paths.specs.Tick.{slot_of}
use Rattle.critical_paths.specs.Unfolded.{open_before}
use Rattle.critical_paths.specs.Views.{arc_with_word, read_of}
use Rattle.critical_paths.proofs.Ending.{open_constant, open_found, open_none}
use Rattle.critical_paths.proofs.view.View.own_back.Goals as goal

pub returns-in_err-arc : goal.returns-in_err-arc
returns-in_err-arc g c =
    let circuit = c.args.self.now.circuit.now in
    let asked = c.args.asked in
    let p = period circuit.header in
    ap (option_map (read_of p)) c.from_residual.ensures
    ∙ ap (λ found. option_and_then (open_before circuit asked.element.now (slot_of p asked.tick))
    (option_map arc_with_word found))
    (sym c.in_err-arc.was)

pub returns-in_err-pin : goal.returns-in_err-pin
returns-in_err-pin g c =
    let circuit = c.args.self.now.circuit.now in
    let asked = c.args.asked in
    let p = period circuit.header in
    let known = subst IsHeader c.header.ensures c.known.ensures in
    let least : 2 ≤ p = known.shortest in
    let some : 0 < p = omega (arith, least) in
    ap (option_map (read_of p)) c.from_residual-in_err-pin.ensures
    ∙ open_none circuit asked.element.now asked.tick (arc_with_word c.in_ok-arc.arc) some
    (sym c.pin_at.ensures ∙ c.in_err-pin.was)
    ∙ ap (λ found. option_and_then (open_before circuit asked.element.now (slot_of p asked.tick))
    (option_map arc_with_word found))
    (sym c.in_ok-arc.was)

pub returns-in-Constant : goal.returns-in-Constant
returns-in-Constant g c =
    let circuit = c.args.self.now.circuit.now in
    let asked = c.args.asked in
    let p = period circuit.header in
    let known = subst IsHeader c.header.ensures c.known.ensures in
    let least : 2 ≤ p = known.shortest in
    let some : 0 < p = omega (arith, least) in
    open_constant circuit asked.element.now asked.tick
    (arc_with_word c.in_ok-arc.arc) some c.in_ok-pin.pin c.in-Constant.field-0
    (sym c.pin_at.ensures ∙ c.in_ok-pin.was) c.in-Constant.is
    ∙ ap (λ found. option_and_then (open_before circuit asked.element.now (slot_of p asked.tick))
    (option_map arc_with_word found))
    (sym c.in_ok-arc.was)

pub returns-in-Net : goal.returns-in-Net
returns-in-Net g c =
    let circuit = c.args.self.now.circuit.now in
    let asked = c.args.asked in
    let p = period circuit.header in
    let known = subst IsHeader c.header.ensures c.known.ensures in
    let least : 2 ≤ p = known.shortest in
    let some : 0 < p = omega (arith, least) in
    let arc = c.in_ok-arc.arc in
    let near = c.requires in
    let first : to_z w64 (of_z w64 c.sooner-first.result)
    ≡ asked.tick -ℤ pos arc.delay = omega (arith, ints, c.sooner-first.ensures, near) in
    let tick : to_z w64 (of_z w64 c.sooner-tick.result)
    ≡ to_z w64 (of_z w64 c.sooner-first.result) -ℤ pos c.wire.inside.min =
    omega (arith, ints, c.sooner-tick.ensures, first, near) in
    open_found circuit asked.element.now asked.tick
    (arc_with_word arc) some c.in_ok-pin.pin c.in-Net.net c.wire.inside.min
    c.turned-direction.result
    _ _ (sym c.pin_at.ensures ∙ c.in_ok-pin.was) c.in-Net.is
    (ap (λ (b : Bounds). b.min) (c.wire.view_is ∙ c.wire_behind.ensures
    ∙ ap (target_wire circuit.nets) c.in-Net.is))
    c.turned-direction.ensures first tick
    ∙ ap (λ found. option_and_then (open_before circuit asked.element.now (slot_of p asked.tick))
    (option_map arc_with_word found))
    (sym c.in_ok-arc.was)
