use Rattle.std.proofs.Common.{◌≡◌, ◌∙◌, ◌<◌, List, length, map, sym, ap, subst, rules, arith, count_by}
use Rattle.std.specs.Prelude.{is_some}
use Rattle.std.specs.List.{position}
use Rattle.scald_base.specs.Time.{period}
use Rattle.step_values.specs.declared.value.Value.{Value}
use Rattle.skew_algebra.specs.Wave.{Wave}
use Rattle.gate_eval.specs.Meeting.{HaveOnePeriod}
use Rattle.gate_eval.proofs.Found.{none_is, hazard_unmarked}
use Rattle.fixpoint_engine.specs.Waves.{pin_wave, pin_waves, marked_pin, waves_of}
use Rattle.fixpoint_engine.proofs.OnePeriod.{pins_have_one_period}
use Rattle.fixpoint_engine.proofs.Marks.{count_marks, position_marks, length_marks}
use Rattle.slack_report.proofs.Hazards.{hazard_is}
use Rattle.slack_report.proofs.collected.has_hazard.Goals as goal

pub returns-then-is_none : goal.returns-then-is_none
returns-then-is_none g c =
    let j = c.args.instance.now in
    ap is_some
    (hazard_unmarked j.kind (pin_waves c.args.c.now (waves_of c.args.waves.now) j) (marked_pin j)
    (sym (none_is c.marked_pin.result (search rules)) ∙ c.marked_pin.ensures))

pub hold_fault-requires-clause-pins : goal.hold_fault-requires-clause-pins
hold_fault-requires-clause-pins g c =
    let j = c.args.instance.now in
    let pins = c.as_slice.ensures in
    let marks_are = c.in_ok-pins.ensures.marks in
    let long : length c.in_ok-pins.pins ≡ length j.pins =
    length_marks (λ p. p.hold) (λ p. p.hold) c.in_ok-pins.pins c.as_slice.result.now marks_are
    ∙ ap length pins in
    let marks : count_by (λ p. p.hold) c.in_ok-pins.pins ≡ count_by (λ p. p.hold) j.pins =
    count_marks (λ p. p.hold) (λ p. p.hold) c.in_ok-pins.pins c.as_slice.result.now marks_are
    ∙ ap (count_by (λ p. p.hold)) pins in
    let fits = c.requires.fits.pins in
    record {
      least = rw long fits.least;
      most = rw long fits.most;
      marks = rw marks fits.marks;
    }

pub hold_fault-requires-clause-periods : goal.hold_fault-requires-clause-periods
hold_fault-requires-clause-periods g c =
    let h = c.known.ensures in
    let head = c.header.ensures in
    let some : 0 < period c.args.c.now.header =
    subst (λ h. 0 < period h) head (let two = h.shortest in omega (arith, two)) in
    subst (λ (ws : List (Wave Value)). HaveOnePeriod ws)
    (sym (c.in_ok-pins.ensures.waves
    ∙ ap (map (pin_wave c.args.c.now (waves_of c.args.waves.now))) c.as_slice.ensures))
    (pins_have_one_period c.args.c.now (waves_of c.args.waves.now) c.args.instance.now some
    c.requires.fit.each_slot c.requires.fits)

pub returns : goal.returns
returns g c =
    let j = c.args.instance.now in
    let waves : map (λ p. p.wave) c.in_ok-pins.pins
    ≡ pin_waves c.args.c.now (waves_of c.args.waves.now) j =
    c.in_ok-pins.ensures.waves
    ∙ ap (map (pin_wave c.args.c.now (waves_of c.args.waves.now))) c.as_slice.ensures in
    let marked : position (λ p. p.hold) c.in_ok-pins.pins ≡ marked_pin j =
    position_marks (λ p. p.hold) (λ p. p.hold) c.in_ok-pins.pins c.as_slice.result.now
    c.in_ok-pins.ensures.marks ∙ ap (position (λ p. p.hold)) c.as_slice.ensures in
    c.is_some.ensures
    ∙ hazard_is c.args.c.now (waves_of c.args.waves.now) j (map (λ p. p.wave) c.in_ok-pins.pins)
    (position (λ p. p.hold) c.in_ok-pins.pins) c.hold_fault.result waves marked
    c.hold_fault.ensures.first
