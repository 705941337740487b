use Rattle.std.proofs.Common.{refl, sym, ap, subst, ◌∙◌}
use Rattle.std.specs.Option.{option_and_then, option_map, option_or}
use Rattle.scald_base.specs.Time.{period}
use Rattle.fixpoint_engine.specs.Waves.{waves_of}
use Rattle.critical_paths.specs.declared.direction.Direction.TheVariants.{Rise, Fall}
use Rattle.critical_paths.specs.Path.{before_arc, cut, inner_arc}
use Rattle.critical_paths.specs.Tick.{IsWithin, most_tick, slot_of}
use Rattle.critical_paths.specs.Views.{arc_with_word, event_of}
use Rattle.critical_paths.proofs.Cutting.{firm_is, free_is, split_there, two_are, two_before}
use Rattle.critical_paths.proofs.Pins.{fits_at}
use Rattle.critical_paths.proofs.view.View.back_by_two.Goals as goal

pub or_else-requires-clause-tick : goal.or_else-requires-clause-tick
or_else-requires-clause-tick g c = subst (IsWithin most_tick)
    (sym c.requires.event.same_tick) c.requires.tick

pub returns : goal.returns
returns g c =
    let circuit = c.args.self.now.circuit.now in
    let ws = waves_of c.args.self.now.waves.now in
    let asked = c.args.asked in
    let j = asked.element.now in
    let event = event_of (period circuit.header) c.args.event in
    let q = slot_of (period circuit.header) asked.tick in
    let two = split_there j.split c.requires.two in
    let s = two.0 in
    let is = two.1 in
    let twice = two_are j s (fits_at circuit asked.number j c.requires.sees.circuit
    c.requires.is).split is in
    let through = option_and_then (before_arc circuit ws j asked.corner q) in
    let rise = option_map arc_with_word c.in_ok-rise.rise in
    let fall = option_map arc_with_word c.in_ok-fall.fall in
    let inner = option_or (inner_arc circuit ws j asked.corner asked.direction q s Rise)
    (inner_arc circuit ws j asked.corner asked.direction q s Fall) in
    let ended = c.through_some-ended.ensures ∙ ap through (c.firm-firm.ensures
    ∙ firm_is circuit ws j asked.corner s is asked.direction q rise fall c.in_ok-rise.ensures
    c.in_ok-fall.ensures) in
    let free = free_is circuit ws j asked.corner s is asked.direction q rise fall inner
    (option_or (option_or rise fall) inner) c.in_ok-rise.ensures c.in_ok-fall.ensures refl refl in
    c.in_ok-found.ensures s is
    ∙ (λ i. option_or (ended i) (option_or (cut circuit ws j asked.corner event asked.direction s)
    (through (free i))))
    ∙ two_before circuit ws j asked.corner event asked.direction q s c.requires.event.own
    (ap (slot_of (period circuit.header)) c.requires.event.same_tick) twice
