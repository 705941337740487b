use Rattle.std.proofs.Common.{◌≡◌, ◌<◌, List, length, map, position, sym, ap, subst, ◌∙◌, arith, count_by}
use Rattle.scald_base.specs.Time.{period}
use Rattle.step_values.specs.declared.value.Value.{Value}
use Rattle.skew_algebra.specs.Wave.{Wave}
use Rattle.gate_eval.specs.Meeting.{HaveOnePeriod}
use Rattle.fixpoint_engine.specs.Waves.{pin_wave, waves_of}
use Rattle.fixpoint_engine.proofs.OnePeriod.{pins_have_one_period}
use Rattle.fixpoint_engine.proofs.Marks.{count_marks, length_marks}
use Rattle.gate_eval.specs.Instance.{gate_wave}
use Rattle.fixpoint_engine.specs.Pins.{read}
use Rattle.fixpoint_engine.specs.Waves.{marked_pin, pin_waves}
use Rattle.fixpoint_engine.proofs.Marks.{position_marks}
use Rattle.slack_rows.specs.Pulse.{narrowest}
use Rattle.slack_rows.proofs.Undelayed.{at_once, is_gate_of, made_long, made_narrowest}
use Rattle.slack_rows.proofs.width.narrowest_made.Goals as goal

pub eval_gate-requires-clause-gate : goal.eval_gate-requires-clause-gate
eval_gate-requires-clause-gate g c = is_gate_of c.args.element.now.kind c.requires.gate

pub returns : goal.returns
returns g c =
    let d = c.args.view.now.circuit.now in
    let ws = waves_of c.args.view.now.waves.now in
    let j = c.args.element.now in
    let level = c.args.level in
    let h = c.known.ensures in
    let some : 0 < period d.header = subst (λ h. 0 < period h) c.header.ensures (let two = h.shortest in omega (arith, two)) in
    let waves : map (λ p. p.wave) c.in_ok-pins.pins ≡ pin_waves d ws j =
    c.in_ok-pins.ensures.waves ∙ ap (map (pin_wave d ws)) c.as_slice.ensures in
    let marks : position (λ p. p.hold) c.in_ok-pins.pins ≡ marked_pin j =
    position_marks (λ p. p.hold) (λ p. p.hold) c.in_ok-pins.pins c.as_slice.result.now c.in_ok-pins.ensures.marks
    ∙ ap (position (λ p. p.hold)) c.as_slice.ensures in
    let made : c.in_ok-made.made ≡ gate_wave j.kind (pin_waves d ws j) (marked_pin j) at_once =
    c.in_ok-made.ensures.wave ∙ (λ i. gate_wave j.kind (waves i) (marks i) at_once) in
    let cells = c.wave.ensures in
    let all = made_long d ws j some c.requires.sees.fit.each_slot c.requires.fits c.requires.gate c.in_ok-made.made made in
    let long : length (g.W.CyclicWave.cells c.wave.result.now) ≡ period d.header = ap length cells ∙ all in
    c.narrowest.ensures.is
    ∙ (λ i. narrowest (long i) level (read (cells i)))
    ∙ made_narrowest d ws j some c.requires.sees.fit.each_slot c.requires.fits c.requires.gate c.in_ok-made.made made level

pub eval_gate-requires-clause-pins : goal.eval_gate-requires-clause-pins
eval_gate-requires-clause-pins g c =
    let pins = c.as_slice.ensures in
    let long : length c.in_ok-pins.pins ≡ length c.args.element.now.pins =
    length_marks (λ p. p.hold) (λ p. p.hold) c.in_ok-pins.pins c.as_slice.result.now c.in_ok-pins.ensures.marks ∙ ap length pins in
    let marks : count_by (λ p. p.hold) c.in_ok-pins.pins ≡ count_by (λ p. p.hold) c.args.element.now.pins =
    count_marks (λ p. p.hold) (λ p. p.hold) c.in_ok-pins.pins c.as_slice.result.now c.in_ok-pins.ensures.marks ∙ ap (count_by (λ p. p.hold)) pins in
    let fits = c.requires.fits.pins in
    record {
      least = rw long fits.least;
      most = rw long fits.most;
      marks = rw marks fits.marks;
    }

pub eval_gate-requires-clause-periods : goal.eval_gate-requires-clause-periods
eval_gate-requires-clause-periods g c =
    let d = c.args.view.now.circuit.now in
    let ws = waves_of c.args.view.now.waves.now in
    let h = c.known.ensures in
    let head = c.header.ensures in
    let some : 0 < period d.header = subst (λ h. 0 < period h) head (let two = h.shortest in omega (arith, two)) in
    subst (λ (ws : List (Wave Value)). HaveOnePeriod ws)
    (sym (c.in_ok-pins.ensures.waves ∙ ap (map (pin_wave d ws)) c.as_slice.ensures))
    (pins_have_one_period d ws c.args.element.now some c.requires.sees.fit.each_slot c.requires.fits)
