use Rattle.std.proofs.Common.{◌≡◌, ◌∙◌, ◌<◌, List, length, map, sym, ap, subst, refl, rules, arith, count_by, Some, None}
use Rattle.std.specs.List.{position}
use Rattle.std.specs.Option.{option_map}
use Rattle.scald_base.specs.Time.{period}
use Rattle.step_values.specs.declared.value.Value.{Value}
use Rattle.skew_algebra.specs.Wave.{Wave}
use Rattle.flat_circuit.specs.declared.fault.Fault.TheVariants.{Hazard}
use Rattle.gate_eval.specs.Meeting.{HaveOnePeriod}
use Rattle.gate_eval.proofs.Found.{none_is, hazard_unmarked}
use Rattle.fixpoint_engine.specs.Waves.{pin_wave, pin_waves, marked_pin, waves_of}
use Rattle.fixpoint_engine.proofs.OnePeriod.{pins_have_one_period}
use Rattle.fixpoint_engine.proofs.Marks.{count_marks, position_marks, length_marks}
use Rattle.point_check.specs.Faults.{hazard_at}
use Rattle.point_check.proofs.Gathered.{mark_is}
use Rattle.point_check.proofs.mark.mark_fault.Goals as goal

pub returns-then-is_none : goal.returns-then-is_none
returns-then-is_none g c =
    ap (option_map (hazard_at c.args.number))
    (hazard_unmarked c.args.gate.now.kind (pin_waves c.args.c.now (waves_of c.args.waves.now) c.args.gate.now) (marked_pin c.args.gate.now)
    (sym (none_is c.marked_pin.result (search rules)) ∙ c.marked_pin.ensures))

pub hold_fault-requires-clause-pins : goal.hold_fault-requires-clause-pins
hold_fault-requires-clause-pins g c =
    let pins = c.as_slice.ensures in
    let long : length c.in_ok-pins.pins ≡ length c.args.gate.now.pins =
    length_marks (λ p. p.hold) (λ p. p.hold) c.in_ok-pins.pins c.as_slice.result.now c.in_ok-pins.ensures.marks ∙ ap length pins in
    let marks : count_by (λ p. p.hold) c.in_ok-pins.pins ≡ count_by (λ p. p.hold) c.args.gate.now.pins =
    count_marks (λ p. p.hold) (λ p. p.hold) c.in_ok-pins.pins c.as_slice.result.now c.in_ok-pins.ensures.marks ∙ ap (count_by (λ p. p.hold)) pins in
    let fits = c.requires.fits.pins in
    record {
      least = rw long fits.least;
      most = rw long fits.most;
      marks = rw marks fits.marks;
    }

pub hold_fault-requires-clause-periods : goal.hold_fault-requires-clause-periods
hold_fault-requires-clause-periods g c =
    let h = c.known.ensures in
    let head = c.header.ensures in
    let some : 0 < period c.args.c.now.header = subst (λ h. 0 < period h) head (let two = h.shortest in omega (arith, two)) in
    subst (λ (ws : List (Wave Value)). HaveOnePeriod ws)
    (sym (c.in_ok-pins.ensures.waves ∙ ap (map (pin_wave c.args.c.now (waves_of c.args.waves.now))) c.as_slice.ensures))
    (pins_have_one_period c.args.c.now (waves_of c.args.waves.now) c.args.gate.now some
    c.requires.fit.each_slot c.requires.fits)

pub returns-in-None : goal.returns-in-None
returns-in-None g c =
    mark_is c.args.c.now (waves_of c.args.waves.now) c.args.number c.args.gate.now
    (map (λ p. p.wave) c.in_ok-pins.pins) (position (λ p. p.hold) c.in_ok-pins.pins) None None
    (c.in_ok-pins.ensures.waves ∙ ap (map (pin_wave c.args.c.now (waves_of c.args.waves.now))) c.as_slice.ensures)
    (position_marks (λ p. p.hold) (λ p. p.hold) c.in_ok-pins.pins c.as_slice.result.now c.in_ok-pins.ensures.marks ∙ ap (position (λ p. p.hold)) c.as_slice.ensures)
    c.in-None.ensures.first refl

pub returns : goal.returns
returns g c =
    mark_is c.args.c.now (waves_of c.args.waves.now) c.args.number c.args.gate.now
    (map (λ p. p.wave) c.in_ok-pins.pins) (position (λ p. p.hold) c.in_ok-pins.pins) (Some c.in-Some.found)
    (Some (Hazard c.args.number c.in-Some.found.0 c.in-Some.found.1))
    (c.in_ok-pins.ensures.waves ∙ ap (map (pin_wave c.args.c.now (waves_of c.args.waves.now))) c.as_slice.ensures)
    (position_marks (λ p. p.hold) (λ p. p.hold) c.in_ok-pins.pins c.as_slice.result.now c.in_ok-pins.ensures.marks ∙ ap (position (λ p. p.hold)) c.as_slice.ensures)
    c.in-Some.ensures.first refl
