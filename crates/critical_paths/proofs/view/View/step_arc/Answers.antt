use Rattle.std.proofs.Common.{◌≡◌, ◌*◌, Some, sym, ap, subst, ◌∙◌}
use Rattle.std.specs.Prelude.{slice_get}
use Rattle.scald_base.specs.Time.{Bounds, period}
use Rattle.fixpoint_engine.specs.Waves.{waves_of}
use Rattle.critical_paths.specs.declared.cause.Asked.{Asked}
use Rattle.critical_paths.specs.Path.{arc_inward}
use Rattle.critical_paths.specs.Tick.{IsWithin, most_tick, slot_of}
use Rattle.critical_paths.proofs.Cutting.{if_asked, unasked}
use Rattle.critical_paths.proofs.view.View.step_arc.Goals as goal

pub arc_at-requires-clause-is : goal.arc_at-requires-clause-is
arc_at-requires-clause-is g c =
    subst (λ (a : Asked). slice_get c.args.self.now.circuit.now.instances a.number
    ≡ Some a.element.now)
    (sym c.towards-towards.ensures) c.requires.is

pub arc_at-requires-clause-tick : goal.arc_at-requires-clause-tick
arc_at-requires-clause-tick g c =
    subst (λ (a : Asked). IsWithin (2 * most_tick) a.tick)
    (sym c.towards-towards.ensures) c.requires.tick

pub returns-then-not-has : goal.returns-then-not-has
returns-then-not-has g c = unasked c.args.asked.direction c.args.step _
    (sym c.has.ensures ∙ c.if-not-has.true)

pub returns : goal.returns
returns g c =
    let circuit = c.args.self.now.circuit.now in
    let ws = waves_of c.args.self.now.waves.now in
    let asked = c.args.asked in
    let j = asked.element.now in
    let p = period circuit.header in
    let towards = ap (λ (a : Asked). arc_inward circuit ws a.element.now a.corner a.direction
    (slot_of p a.tick) c.own_delay-delay.result 0) c.towards-towards.ensures in
    if_asked asked.direction c.args.step _ _ (sym c.has.ensures ∙ c.if-not-has.false)
    (c.in_ok-found.ensures ∙ towards
    ∙ ap (λ (d : Bounds). arc_inward circuit ws j asked.corner c.args.step
    (slot_of p asked.tick) d 0) c.own_delay-delay.ensures)
