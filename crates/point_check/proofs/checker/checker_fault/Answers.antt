use Rattle.std.proofs.Common.{◌≡◌, ◌∙◌, length, sym, ap, arith}
use Rattle.step_values.specs.declared.value.Value.{Value}
use Rattle.skew_algebra.specs.Wave.{Wave}
use Rattle.scald_base.specs.Time.{period}
use Rattle.fixpoint_engine.specs.Waves.{pin_wave, waves_of}
use Rattle.fixpoint_engine.proofs.Fits.{long_pin}
use Rattle.point_check.proofs.Gathered.{same_checker}
use Rattle.point_check.proofs.checker.checker_fault.Goals as goal

pub fault_between-requires-clause-limits : goal.fault_between-requires-clause-limits
fault_between-requires-clause-limits g c =
    let ws = waves_of c.args.waves.now in
    let long : length c.in_ok-clock_wave.clock_wave.cells ≡ period c.args.c.now.header =
    ap (λ (w : Wave Value). length w.cells) c.in_ok-clock_wave.ensures ∙ long_pin c.args.c.now ws c.args.asked.clock c.requires.fit.each_slot c.requires.clock in
    let within = c.requires.limits in
    omega (arith, long, within)

pub fault_between-requires-clause-periods : goal.fault_between-requires-clause-periods
fault_between-requires-clause-periods g c =
    let ws = waves_of c.args.waves.now in
    ap (λ (w : Wave Value). length w.cells) c.in_ok-input_wave.ensures ∙ long_pin c.args.c.now ws c.args.asked.input c.requires.fit.each_slot c.requires.input
    ∙ sym (ap (λ (w : Wave Value). length w.cells) c.in_ok-clock_wave.ensures ∙ long_pin c.args.c.now ws c.args.asked.clock c.requires.fit.each_slot c.requires.clock)

pub returns : goal.returns
returns g c =
    let ws = waves_of c.args.waves.now in
    same_checker c.args.asked.kind (length c.in_ok-clock_wave.clock_wave.cells) (period c.args.c.now.header) c.args.asked.instance
    c.in_ok-clock_wave.clock_wave (pin_wave c.args.c.now ws c.args.asked.clock)
    c.in_ok-input_wave.input_wave (pin_wave c.args.c.now ws c.args.asked.input)
    c.args.asked.limits c.in_ok-found.found
    (ap (λ (w : Wave Value). length w.cells) c.in_ok-clock_wave.ensures ∙ long_pin c.args.c.now ws c.args.asked.clock c.requires.fit.each_slot c.requires.clock)
    c.in_ok-clock_wave.ensures c.in_ok-input_wave.ensures c.in_ok-found.ensures
