use Rattle.std.proofs.Common.{◌≡◌, ℕ, refl, subst, sym, ap, ◌∙◌, length, ◌<◌, arith}
use Rattle.std.proofs.lemmas.Option.{get_or_from_slice_get}
use Rattle.scald_base.specs.Time.{period}
use Rattle.flat_circuit.specs.Instances.{PinExists}
use Rattle.fixpoint_engine.specs.Waves.{pin_wave, waves_of}
use Rattle.fixpoint_engine.proofs.Fits.{long_pin}
use Rattle.fixpoint_engine.proofs.ReadSlots.{length_folded, read_folded}
use Rattle.critical_paths.specs.Event.{Events}
use Rattle.slack_rows.specs.Exact.{AreOfPins}
use Rattle.slack_rows.specs.Held.{AreSlots}
use Rattle.slack_rows.specs.Watch.{opens}
use Rattle.slack_rows.proofs.Launching.{goes_none, goes_then}
use Rattle.slack_rows.proofs.Marking.{lets_are, marked_all, marked_more, marked_none}
use Rattle.slack_rows.proofs.Parting.{folds_are}
use Rattle.slack_rows.proofs.Subjects.{pins_more, pins_none}
use Rattle.slack_rows.proofs.gate.gate_slacks.Goals as goal

pub fold-requires-clause-pin : goal.fold-requires-clause-pin
fold-requires-clause-pin g c =
    let j = c.args.gate.now in
    subst (PinExists (length c.args.view.now.circuit.now.nets))
    (get_or_from_slice_get j.pins c.args.marked c.pin_of-pin.result c.pin_of-pin.result c.pin_of-pin.ensures)
    (c.requires.fits.exists.reads c.args.marked c.pin_of-pin.result c.requires.marked)

pub slots-requires : goal.slots-requires
slots-requires g c =
    let circuit = c.args.view.now.circuit.now in
    let ws = waves_of c.args.view.now.waves.now in
    let j = c.args.gate.now in
    let pin = c.pin_of-pin.result in
    let exists = subst (PinExists (length circuit.nets)) (get_or_from_slice_get j.pins c.args.marked pin pin c.pin_of-pin.ensures)
    (c.requires.fits.exists.reads c.args.marked pin c.requires.marked) in
    length_folded (pin_wave circuit ws pin) (g.W.CyclicWave.cells c.in_ok-mark.mark) c.in_ok-mark.ensures
    ∙ long_pin circuit ws pin c.requires.sees.fit.each_slot exists

pub loop-place-init : goal.loop-place-init
loop-place-init g c =
    let circuit = c.args.view.now.circuit.now in
    let ws = waves_of c.args.view.now.waves.now in
    record {
      goes = goes_none circuit ws c.args.paths.now c.requires.knows;
      marked = marked_none circuit ws c.args.gate.now c.args.marked _ refl;
      each = λ exact. pins_none circuit ws c.args.gate.now c.args.marked _ refl;
    }

pub loop-place-preserved : goal.loop-place-preserved
loop-place-preserved g c =
    let circuit = c.args.view.now.circuit.now in
    let ws = waves_of c.args.view.now.waves.now in
    let p = period circuit.header in
    let j = c.args.gate.now in
    let marked = c.args.marked in
    let pin = c.pin_of-pin.result in
    let exists = subst (PinExists (length circuit.nets)) (get_or_from_slice_get j.pins marked pin pin c.pin_of-pin.ensures)
    (c.requires.fits.exists.reads marked pin c.requires.marked) in
    let w = pin_wave circuit ws pin in
    let cells = g.W.CyclicWave.cells c.in_ok-mark.mark in
    let long : length w.cells ≡ p = long_pin circuit ws pin c.requires.sees.fit.each_slot exists in
    let least = c.period-period.ensures.shortest in
    let some : 0 < length w.cells = omega (arith, least, c.period-period.ensures.is, long) in
    let are = subst (λ (ev : Events). AreSlots p ev c.in_ok-opened.opened)
    (lets_are j.kind c.at_rest.result cells c.at_rest.ensures
    ∙ ap (opens j.kind) (read_folded w cells some c.in_ok-mark.ensures ∙ sym (folds_are circuit ws j marked pin c.pin_of-pin.ensures)))
    c.in_ok-opened.ensures.are in
    record {
      goes = goes_then circuit ws c.args.paths.now c.loop-place.paths c.beside_if.new.paths c.loop-place.invariant.goes c.in_ok-found.ensures.paths;
      marked = marked_more circuit ws j marked c.loop-place.place c.loop-place.all c.in_ok-found.found c.lesser-all.result
          c.loop-place.invariant.marked (c.in_ok-found.ensures.finding are) c.lesser-all.ensures.level c.lesser-all.ensures.before
          c.lesser-all.ensures.after;
      each = λ exact.
          pins_more circuit ws j marked c.loop-place.place c.loop-place.all c.in_ok-found.found c.lesser-all.result
          (c.loop-place.invariant.each exact)
          record { first = c.loop-place.paths; knows = c.loop-place.invariant.goes.keeps exact; are = c.in_ok-found.ensures.are are }
          c.lesser-all.ensures.level c.lesser-all.ensures.before c.lesser-all.ensures.after;
    }

pub returns : goal.returns
returns g c =
    let past = c.loop-place-test.false in
    let most = c.loop-place.auto.place-end in
    let long = c.len-place-end.ensures in
    let all = marked_all c.args.view.now.circuit.now (waves_of c.args.view.now.waves.now) c.args.gate.now c.args.marked c.loop-place.place
    c.loop-place.all (omega (arith, past, most, long)) c.loop-place.invariant.marked in
    let whole : c.loop-place.place ≡ length c.args.gate.now.pins = omega (arith, past, most, long) in
    record {
      paths = c.loop-place.invariant.goes;
      level = all.0;
      sides = all.1;
      are = λ exact. subst (λ (n : ℕ). AreOfPins c.args.view.now.circuit.now (waves_of c.args.view.now.waves.now) c.args.gate.now c.args.marked n
          c.loop-place.all) whole (c.loop-place.invariant.each exact);
    }
