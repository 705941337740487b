use Rattle.std.proofs.Common.{◌≡◌, ℤ, ◌-ℤ◌, to_z, of_z, w8, w64, true, cond, ◌*◌, Some, None, sym, ap, subst, ◌∙◌, arith}
use Rattle.std.specs.Prelude.{slice_get}
use Rattle.std.specs.Option.{option_map}
use Rattle.std.proofs.lemmas.Int.{ints}
use Rattle.scald_base.specs.Time.{period}
use Rattle.fixpoint_engine.specs.Waves.{waves_of}
use Rattle.critical_paths.specs.declared.cause.Asked.{Asked}
use Rattle.critical_paths.specs.declared.event.Event.{Event as Noted}
use Rattle.critical_paths.specs.declared.path.Passage.TheVariants.{Cut}
use Rattle.critical_paths.specs.Event.{is_step, turned}
use Rattle.critical_paths.specs.Path.{cut_off, is_cut_by}
use Rattle.critical_paths.specs.Tick.{IsWithin, most_tick, slot_of}
use Rattle.critical_paths.specs.Views.{before_of, event_of}
use Rattle.critical_paths.proofs.Cutting.{cut_noted, mapped_if}
use Rattle.critical_paths.proofs.view.View.cutter_at.Goals as goal

pub cuts-requires-clause-is : goal.cuts-requires-clause-is
cuts-requires-clause-is g c =
    subst (λ (a : Asked). slice_get c.args.self.now.circuit.now.instances a.number
    ≡ Some a.element.now) (sym c.at-cutting.ensures)
    c.requires.is

pub cuts-requires-clause-tick : goal.cuts-requires-clause-tick
cuts-requires-clause-tick g c =
    let near = c.beside-tick.ensures.near in
    let same : to_z w64 (of_z w64 c.beside-tick.result)
    ≡ c.beside-tick.result = omega (arith, ints, near) in
    subst (λ (a : Asked). IsWithin (2 * most_tick) a.tick) (sym c.at-cutting.ensures)
    (subst (IsWithin (2 * most_tick)) (sym same) near)

pub cuts-requires-clause-step : goal.cuts-requires-clause-step
cuts-requires-clause-step g c =
    subst (λ (a : Asked). is_step a.direction ≡ true) (sym c.at-cutting.ensures) c.requires.other

pub returns : goal.returns
returns g c =
    let circuit = c.args.self.now.circuit.now in
    let ws = waves_of c.args.self.now.waves.now in
    let asked = c.args.asked in
    let j = asked.element.now in
    let p = period circuit.header in
    let event = c.args.event in
    let other = c.args.other in
    let near = c.beside-tick.ensures.near in
    let within = c.requires.tick in
    let tick : to_z w64 (of_z w64 c.beside-tick.result) ≡ event.tick -ℤ c.args.late =
    omega (arith, ints, near, within, c.beside-tick.ensures.is) in
    let late : to_z w8 (of_z w8 c.args.late) ≡ c.args.late = omega (arith, ints) in
    λ s two.
    cut_noted circuit ws j asked.corner s two event.net other c.args.late
    (slot_of p (event.tick -ℤ c.args.late)) c.in_ok-is_cut.is_cut _
    (c.in_ok-is_cut.ensures s c.args.late
    (ap (λ (a : Asked). a.element.now.split) c.at-cutting.ensures ∙ two)
    ∙ ap (λ (a : Asked). is_cut_by circuit ws a.element.now a.corner s
    (cut_off event.net (turned a.element.now.out_inverted a.direction) c.args.late
    (slot_of p a.tick))) c.at-cutting.ensures
    ∙ ap (λ (t : ℤ). is_cut_by circuit ws j asked.corner s
    (cut_off event.net (turned j.out_inverted other) c.args.late (slot_of p t))) tick)
    (ap (option_map (before_of p)) c.cut_by_event.ensures
    ∙ mapped_if (before_of p) c.in_ok-is_cut.is_cut _
    ∙ ap (λ (e : Noted). cond c.in_ok-is_cut.is_cut (Some (record {
      passage = Cut (to_z w8 (of_z w8 c.args.late));
      event = event_of p e;
    })) None) c.at-there.ensures
    ∙ (λ i. cond c.in_ok-is_cut.is_cut
    (Some (cut_off event.net (c.turned-direction.ensures i) (late i) (slot_of p (tick i)))) None))
