use Rattle.std.proofs.Common.{◌≡◌, ◌*◌, ◌<◌, ◌≤◌, length, Some, sym, ap, subst, ◌∙◌, arith}
use Rattle.std.specs.Prelude.{slice_get}
use Rattle.scald_base.specs.Time.{IsHeader, period}
use Rattle.fixpoint_engine.specs.Waves.{waves_of}
use Rattle.critical_paths.specs.declared.cause.Asked.{Asked}
use Rattle.critical_paths.specs.Cause.{held_pin}
use Rattle.critical_paths.specs.Tick.{IsWithin, most_tick, slot_of}
use Rattle.critical_paths.specs.Unfolded.{open_cause}
use Rattle.critical_paths.proofs.Ending.{own_tried, pinned_by}
use Rattle.critical_paths.proofs.Ticks.{inward_small, within_sooner}
use Rattle.critical_paths.proofs.view.View.own_arc_at.Goals as goal

pub own_cause-requires-clause-is : goal.own_cause-requires-clause-is
own_cause-requires-clause-is g c =
    subst (λ (a : Asked). slice_get c.args.self.now.circuit.now.instances a.number
    ≡ Some a.element.now)
    (sym c.earlier-earlier.ensures) c.requires.is

pub own_cause-requires-clause-held : goal.own_cause-requires-clause-held
own_cause-requires-clause-held g c =
    subst (λ (a : Asked). c.args.held
    ≡ held_pin c.args.self.now.circuit.now (waves_of c.args.self.now.waves.now) a.element.now)
    (sym c.earlier-earlier.ensures) c.requires.held

pub own_cause-requires-clause-place : goal.own_cause-requires-clause-place
own_cause-requires-clause-place g c =
    subst (λ (a : Asked). c.args.place < length a.element.now.pins)
    (sym c.earlier-earlier.ensures) c.requires.place

pub own_cause-requires-clause-tick : goal.own_cause-requires-clause-tick
own_cause-requires-clause-tick g c =
    let small = inward_small c.args.asked.corner c.args.delay c.args.by c.requires.within
    c.known-2.ensures.bounded in
    subst (λ (a : Asked). IsWithin (4 * most_tick) a.tick) (sym c.earlier-earlier.ensures)
    (within_sooner c.args.asked.tick c.inside-late.result c.requires.tick
    (omega (arith, small, c.inside-late.ensures)))

pub returns : goal.returns
returns g c =
    let circuit = c.args.self.now.circuit.now in
    let ws = waves_of c.args.self.now.waves.now in
    let asked = c.args.asked in
    let j = asked.element.now in
    let p = period circuit.header in
    let known = subst IsHeader c.header.ensures c.known.ensures in
    let least : 2 ≤ p = known.shortest in
    let some : 0 < p = omega (arith, least) in
    let earlier = ap (λ (a : Asked). pinned_by circuit ws j asked.corner asked.direction j.split
    c.args.delay c.args.place asked.tick some
    (open_cause circuit ws a.element.now a.direction (slot_of p a.tick) c.args.place))
    c.earlier-earlier.ensures in
    own_tried circuit ws j asked.corner asked.direction j.split c.args.delay c.args.place asked.tick
    some c.args.by c.inside-late.result
    c.end_word-word.result _ _ c.inside-late.ensures c.end_word-word.ensures
    (c.in_ok-found.ensures ∙ earlier) c.arc_after.ensures
