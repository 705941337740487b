use Rattle.fixpoint_engine.specs.Waves.{waves_of}
use Rattle.pulse_check.proofs.AsBefore.{same_first}
use Rattle.pulse_check.proofs.before.is_checked_as_before.Goals as goal

pub returns : goal.returns
returns g c same =
    same_first c.args.c.now (waves_of c.args.before.now) (waves_of c.args.waves.now) c.args.checker.now
    c.as_slice-pins.result.now _ c.requires.checker c.requires.fits.pins c.as_slice-pins.ensures (c.has_one_wave_at.ensures.0 same)
