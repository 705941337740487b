use Rattle.std.proofs.Common.{◌≡◌, ◌++◌, take}
use Rattle.std.specs.Prelude.{filter_map}
use Rattle.fixpoint_engine.specs.Waves.{waves_of}
use Rattle.point_check.specs.Faults.{net_fault}
use Rattle.point_check.proofs.check.add_net_faults.Given as goal

abbrev pub invariant-loop-place : goal.invariant-loop-place
invariant-loop-place g l =
    l.faults ≡ l.fn.faults ++ filter_map (net_fault l.c (waves_of l.waves)) (take l.place l.c.order)
