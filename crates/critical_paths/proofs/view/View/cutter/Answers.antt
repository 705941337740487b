use Rattle.std.proofs.Common.{◌≡◌, ◌≤◌, true, sym, ap, subst, ◌∙◌, arith}
use Rattle.scald_base.specs.Time.{IsHeader, period}
use Rattle.fixpoint_engine.specs.Waves.{waves_of}
use Rattle.critical_paths.specs.declared.direction.Direction.{Direction}
use Rattle.critical_paths.specs.Event.{is_step, turned}
use Rattle.critical_paths.specs.Path.{cut_by}
use Rattle.critical_paths.specs.Tick.{slot_of}
use Rattle.critical_paths.proofs.Cutting.{if_asked, looked, step_turned, unasked}
use Rattle.critical_paths.proofs.view.View.cutter.Goals as goal

pub cutter_near-requires-clause-other : goal.cutter_near-requires-clause-other
cutter_near-requires-clause-other g c =
    subst (λ (d : Direction). is_step d ≡ true) (sym c.turned-other.ensures)
    (step_turned c.args.step c.requires.step)

pub returns-then-not-has : goal.returns-then-not-has
returns-then-not-has g c = λ s two. unasked c.args.asked.direction c.args.step _
    (sym c.has.ensures ∙ c.if-not-has.true)

pub returns : goal.returns
returns g c =
    let circuit = c.args.self.now.circuit.now in
    let ws = waves_of c.args.self.now.waves.now in
    let asked = c.args.asked in
    let j = asked.element.now in
    let p = period circuit.header in
    let event = c.args.event in
    let known = subst IsHeader c.header.ensures c.known.ensures in
    let least : 2 ≤ p = known.shortest in
    λ s two.
    if_asked asked.direction c.args.step _ _ (sym c.has.ensures ∙ c.if-not-has.false)
    (c.in_ok-found.ensures s two
    ∙ looked circuit ws j asked.corner s two event.net (turned j.out_inverted c.turned-other.result)
    event.tick (omega (arith, least))
    ∙ ap (λ (d : Direction). cut_by circuit ws j asked.corner event.net (slot_of p event.tick) s
    (turned j.out_inverted d)) c.turned-other.ensures)
