use Rattle.std.proofs.Common.{◌≡◌, false, get_or, length}
use Rattle.std.proofs.lemmas.Result.{IfOk-weaker}
use Rattle.scald_base.specs.Time.{period}
use Rattle.vector_names.specs.declared.bits.Target.TheVariants.{Net}
use Rattle.flat_circuit.specs.declared.instance.Pin.{Pin}
use Rattle.fixpoint_engine.specs.Waves.{pin_wave, waves_of}
use Rattle.pulse_check.proofs.Gathered.{long_first}
use Rattle.pulse_check.proofs.checker.checked_wave.Goals as goal

pub returns-clause-sized : goal.returns-clause-sized
returns-clause-sized g c =
    let ws = waves_of c.args.waves.now in
    let none : Pin = record { target = Net 0; inverted = false; hold = false } in
    IfOk-weaker c.pin_wave.result (λ s. s ≡ pin_wave c.args.c.now ws (get_or c.as_slice-pins.result.now 0 none))
    (λ s. length s.cells ≡ period c.args.c.now.header)
    (λ s is. long_first c.args.c.now ws c.args.checker.now c.as_slice-pins.result.now none s
    c.requires.checker c.requires.fits c.requires.fit.each_slot c.as_slice-pins.ensures is)
    c.pin_wave.ensures
