use Rattle.std.proofs.Common.{◌≡◌, map}
use Rattle.std.specs.List.{range_with_len}
use Rattle.fixpoint_engine.specs.Waves.{waves_of}
use Rattle.pulse_check.specs.Faults.{instance_faults}
use Rattle.pulse_check.proofs.known.known_pulses.Given as goal

abbrev pub invariant-loop-number : goal.invariant-loop-number
invariant-loop-number g l = l.known ≡ map (instance_faults l.c (waves_of l.waves)) (range_with_len 0 l.number)
