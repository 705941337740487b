use Rattle.std.proofs.Common.{All, take}
use Rattle.fixpoint_engine.specs.Waves.{waves_of}
use Rattle.fixpoint_engine.specs.SameWaves.{IsSameAt}
use Rattle.point_check.proofs.before.have_one_wave_at.Given as goal

abbrev pub invariant-loop-pin : goal.invariant-loop-pin
invariant-loop-pin g l =
    All (IsSameAt (waves_of l.before) (waves_of l.waves)) (take l.pin-index l.pins)
