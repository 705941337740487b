use Rattle.std.proofs.Common.{◌≡◌, ◌∙◌, ◌<◌, List, length, map, sym, ap, subst, arith, count_by}
use Rattle.std.specs.List.{position}
use Rattle.scald_base.specs.Time.{period}
use Rattle.step_values.specs.declared.value.Value.{Value}
use Rattle.skew_algebra.specs.Wave.{Wave}
use Rattle.gate_eval.specs.Meeting.{HaveOnePeriod}
use Rattle.fixpoint_engine.specs.Waves.{pin_wave, pin_waves, marked_pin, waves_of}
use Rattle.fixpoint_engine.proofs.OnePeriod.{pins_have_one_period}
use Rattle.fixpoint_engine.proofs.Marks.{count_marks, position_marks, length_marks}
use Rattle.drawing_notes.proofs.Keeping.{held_is, unmarked_is}
use Rattle.drawing_notes.proofs.held.keeps_mark.Goals as goal

pub returns-then-is_none : goal.returns-then-is_none
returns-then-is_none g c =
    let j = c.args.instance.now in
    unmarked_is c.args.c.now (waves_of c.args.waves.now) j c.marked_pin.result c.is_none.result c.marked_pin.ensures c.is_none.ensures c.if-is_none.true

pub hold_fault-requires-clause-pins : goal.hold_fault-requires-clause-pins
hold_fault-requires-clause-pins g c =
    let j = c.args.instance.now in
    let pins = c.as_slice.ensures in
    let marks_are = c.in_ok-pins.ensures.marks in
    let long : length c.in_ok-pins.pins ≡ length j.pins =
    length_marks (λ p. p.hold) (λ p. p.hold) c.in_ok-pins.pins c.as_slice.result.now marks_are
    ∙ ap length pins in
    let marks : count_by (λ p. p.hold) c.in_ok-pins.pins ≡ count_by (λ p. p.hold) j.pins =
    count_marks (λ p. p.hold) (λ p. p.hold) c.in_ok-pins.pins c.as_slice.result.now marks_are
    ∙ ap (count_by (λ p. p.hold)) pins in
    let fits = c.requires.fits.pins in
    record {
      least = rw long fits.least;
      most = rw long fits.most;
      marks = rw marks fits.marks;
    }

pub hold_fault-requires-clause-periods : goal.hold_fault-requires-clause-periods
hold_fault-requires-clause-periods g c =
    let h = c.known.ensures in
    let head = c.header.ensures in
    let some : 0 < period c.args.c.now.header =
    subst (λ h. 0 < period h) head (let two = h.shortest in omega (arith, two)) in
    subst (λ (ws : List (Wave Value)). HaveOnePeriod ws)
    (sym (c.in_ok-pins.ensures.waves
    ∙ ap (map (pin_wave c.args.c.now (waves_of c.args.waves.now))) c.as_slice.ensures))
    (pins_have_one_period c.args.c.now (waves_of c.args.waves.now) c.args.instance.now some
    c.requires.fit.each_slot c.requires.fits)

pub returns : goal.returns
returns g c =
    let j = c.args.instance.now in
    let waves : map (λ p. p.wave) c.in_ok-pins.pins
    ≡ pin_waves c.args.c.now (waves_of c.args.waves.now) j =
    c.in_ok-pins.ensures.waves
    ∙ ap (map (pin_wave c.args.c.now (waves_of c.args.waves.now))) c.as_slice.ensures in
    let marked : position (λ p. p.hold) c.in_ok-pins.pins ≡ marked_pin j =
    position_marks (λ p. p.hold) (λ p. p.hold) c.in_ok-pins.pins c.as_slice.result.now
    c.in_ok-pins.ensures.marks ∙ ap (position (λ p. p.hold)) c.as_slice.ensures in
    held_is c.args.c.now (waves_of c.args.waves.now) j c.marked_pin.result c.is_none.result c.marked_pin.ensures c.is_none.ensures
    (map (λ p. p.wave) c.in_ok-pins.pins) (position (λ p. p.hold) c.in_ok-pins.pins) c.hold_fault.result c.is_none-2.result waves marked
    c.if-is_none.false c.hold_fault.ensures.first c.is_none-2.ensures
