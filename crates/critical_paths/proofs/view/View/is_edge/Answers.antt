use Rattle.std.proofs.Common.{◌≡◌, ◌<◌, Bool, ap, ◌∙◌, arith, pos, ◌-ℤ◌, to_z, of_z, w64}
use Rattle.std.proofs.lemmas.Int.{ints}
use Rattle.scald_base.specs.Clock.{back, ideal}
use Rattle.scald_base.specs.Time.{Header, period}
use Rattle.step_values.specs.Image.{one_step}
use Rattle.critical_paths.specs.Event.{moves}
use Rattle.critical_paths.specs.Tick.{slot_of}
use Rattle.critical_paths.proofs.Making.{moves_same}
use Rattle.critical_paths.proofs.Ticks.{slot_back}
use Rattle.critical_paths.proofs.view.View.is_edge.Goals as goal

pub returns : goal.returns
returns g c =
    let h = c.args.self.now.circuit.now.header in
    let p = period h in
    let tick = c.args.tick in
    let d = c.args.direction in
    let clock = c.args.clock.now in
    let near = c.requires in
    let inside = c.slot-2.ensures.within in
    let some : 0 < p = omega (arith, inside) in
    let same : to_z w64 (of_z w64 tick) ≡ tick = omega (arith, ints, near) in
    let less : to_z w64 (of_z w64 (to_z w64 (of_z w64 tick) -ℤ pos 1))
    ≡ tick -ℤ pos 1 = omega (arith, ints, near) in
    let before : c.ideal-before.result ≡ ideal clock h (back p (slot_of p tick) 1) =
    c.ideal-before.ensures ∙ ap (λ (x : Header). ideal clock x c.slot.result) c.header-h.ensures
    ∙ ap (ideal clock h) (c.slot.ensures.is ∙ ap (slot_of p) less ∙ slot_back p 1 tick some) in
    let after : c.ideal-after.result ≡ ideal clock h (slot_of p tick) =
    c.ideal-after.ensures ∙ ap (λ (x : Header). ideal clock x c.slot-2.result) c.header-h.ensures
    ∙ ap (ideal clock h) (c.slot-2.ensures.is ∙ ap (slot_of p) same) in
    c.is_among.ensures ∙ moves_same d _ (one_step c.ideal-before.result c.ideal-after.result)
    c.one_if.ensures
    ∙ ap (λ (x : Bool). moves d (one_step x c.ideal-after.result)) before
    ∙ ap (λ (x : Bool). moves d (one_step (ideal clock h (back p (slot_of p tick) 1)) x)) after
