use Rattle.std.proofs.Common.{◌≡◌, ◌∙◌, ◌<◌, List, length, map, sym, ap, subst, refl, true, false, arith, count_by}
use Rattle.std.specs.List.{position}
use Rattle.scald_base.specs.Time.{period}
use Rattle.step_values.specs.declared.value.Value.{Value}
use Rattle.skew_algebra.specs.Wave.{Wave}
use Rattle.gate_eval.specs.Meeting.{HaveOnePeriod}
use Rattle.fixpoint_engine.specs.Waves.{pin_wave, waves_of}
use Rattle.fixpoint_engine.proofs.OnePeriod.{pins_have_one_period}
use Rattle.fixpoint_engine.proofs.Marks.{count_marks, position_marks, length_marks}
use Rattle.fixpoint_engine.proofs.Normal.{instance_is}
use Rattle.fixpoint_engine.proofs.value.instance_wave.Goals as goal

pub made_by-requires-clause-pins : goal.made_by-requires-clause-pins
made_by-requires-clause-pins g c =
    let pins = c.as_slice.ensures in
    let long : length c.in_ok-pins.pins ≡ length c.args.instance.now.pins =
    length_marks (λ p. p.hold) (λ p. p.hold) c.in_ok-pins.pins c.as_slice.result.now c.in_ok-pins.ensures.marks ∙ ap length pins in
    let marks : count_by (λ p. p.hold) c.in_ok-pins.pins ≡ count_by (λ p. p.hold) c.args.instance.now.pins =
    count_marks (λ p. p.hold) (λ p. p.hold) c.in_ok-pins.pins c.as_slice.result.now c.in_ok-pins.ensures.marks ∙ ap (count_by (λ p. p.hold)) pins in
    let fits = c.requires.fits.pins in
    record {
      least = rw long fits.least;
      most = rw long fits.most;
      marks = rw marks fits.marks;
    }

pub made_by-requires-clause-periods : goal.made_by-requires-clause-periods
made_by-requires-clause-periods g c =
    let h = c.known.ensures in
    let head = c.header.ensures in
    let some : 0 < period c.args.c.now.header = subst (λ h. 0 < period h) head (let two = h.shortest in omega (arith, two)) in
    subst (λ (ws : List (Wave Value)). HaveOnePeriod ws)
    (sym (c.in_ok-pins.ensures.waves ∙ ap (map (pin_wave c.args.c.now (waves_of c.args.waves.now))) c.as_slice.ensures))
    (pins_have_one_period c.args.c.now (waves_of c.args.waves.now) c.args.instance.now some
    c.requires.fit.each_slot c.requires.fits)

pub returns-then-instance : goal.returns-then-instance
returns-then-instance g c =
    instance_is c.args.c.now (waves_of c.args.waves.now) c.args.instance.now (map (λ p. p.wave) c.in_ok-pins.pins) (position (λ p. p.hold) c.in_ok-pins.pins) true
    c.in_ok-wave.wave c.in_ok-turned.turned c.if-instance.true
    (let two = c.known-then-instance.ensures.sized.shortest in omega (arith, two)) c.known-then-instance.ensures.normal
    (c.in_ok-pins.ensures.waves ∙ ap (map (pin_wave c.args.c.now (waves_of c.args.waves.now))) c.as_slice.ensures)
    (position_marks (λ p. p.hold) (λ p. p.hold) c.in_ok-pins.pins c.as_slice.result.now c.in_ok-pins.ensures.marks ∙ ap (position (λ p. p.hold)) c.as_slice.ensures)
    c.in_ok-wave.ensures c.in_ok-turned.ensures.wave

pub returns : goal.returns
returns g c =
    instance_is c.args.c.now (waves_of c.args.waves.now) c.args.instance.now (map (λ p. p.wave) c.in_ok-pins.pins) (position (λ p. p.hold) c.in_ok-pins.pins) false
    c.in_ok-wave.wave c.in_ok-wave.wave c.if-instance.false
    (let two = c.known-else-instance.ensures.sized.shortest in omega (arith, two)) c.known-else-instance.ensures.normal
    (c.in_ok-pins.ensures.waves ∙ ap (map (pin_wave c.args.c.now (waves_of c.args.waves.now))) c.as_slice.ensures)
    (position_marks (λ p. p.hold) (λ p. p.hold) c.in_ok-pins.pins c.as_slice.result.now c.in_ok-pins.ensures.marks ∙ ap (position (λ p. p.hold)) c.as_slice.ensures)
    c.in_ok-wave.ensures refl
