use Rattle.std.proofs.Common.{◌≡◌}
use Rattle.std.specs.Prelude.{filter_map}
use Rattle.std.specs.List.{range_with_len}
use Rattle.fixpoint_engine.specs.Waves.{waves_of}
use Rattle.point_check.specs.Faults.{instance_fault}
use Rattle.point_check.proofs.check.instance_faults.Given as goal

abbrev pub invariant-loop-number : goal.invariant-loop-number
invariant-loop-number g l =
    l.faults ≡ filter_map (instance_fault l.c (waves_of l.waves)) (range_with_len 0 l.number)
