use Rattle.std.proofs.Common.{◌≡◌, ◌*◌, ◌<◌, ◌≤◌, Some, sym, ap, subst, ◌∙◌, arith}
use Rattle.std.specs.Prelude.{slice_get}
use Rattle.scald_base.specs.Time.{IsHeader, period}
use Rattle.fixpoint_engine.specs.Waves.{waves_of}
use Rattle.critical_paths.specs.declared.cause.Asked.{Asked}
use Rattle.critical_paths.specs.Cause.{cause_of}
use Rattle.critical_paths.specs.Tick.{IsWithin, most_tick, slot_of}
use Rattle.critical_paths.proofs.Backing.{arc_tried}
use Rattle.critical_paths.proofs.Ticks.{inward_small, within_sooner}
use Rattle.critical_paths.proofs.view.View.arc_at.Goals as goal

pub cause-requires-clause-is : goal.cause-requires-clause-is
cause-requires-clause-is g c =
    subst (λ (a : Asked). slice_get c.args.self.now.circuit.now.instances a.number
    ≡ Some a.element.now)
    (sym c.earlier-earlier.ensures) c.requires.is

pub cause-requires-clause-tick : goal.cause-requires-clause-tick
cause-requires-clause-tick g c =
    let small = inward_small c.args.asked.corner c.args.delay c.args.by c.requires.within
    c.known-2.ensures.bounded in
    subst (λ (a : Asked). IsWithin (4 * most_tick) a.tick) (sym c.earlier-earlier.ensures)
    (within_sooner c.args.asked.tick c.inside-late.result c.requires.tick
    (omega (arith, small, c.inside-late.ensures)))

pub returns : goal.returns
returns g c =
    let circuit = c.args.self.now.circuit.now in
    let ws = waves_of c.args.self.now.waves.now in
    let asked = c.args.asked in
    let j = asked.element.now in
    let p = period circuit.header in
    let known = subst IsHeader c.header.ensures c.known.ensures in
    let least : 2 ≤ p = known.shortest in
    let some : 0 < p = omega (arith, least) in
    let earlier = ap (λ (a : Asked). cause_of circuit ws a.element.now a.corner a.direction
    (slot_of p a.tick)) c.earlier-earlier.ensures in
    arc_tried circuit ws j asked.corner asked.direction c.args.delay asked.tick some c.args.by
    c.inside-late.result _ _
    c.inside-late.ensures (c.in_ok-found.ensures ∙ earlier) c.arc_by.ensures
