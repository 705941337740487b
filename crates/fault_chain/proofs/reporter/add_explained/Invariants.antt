use Rattle.std.proofs.Common.{◌≡◌, ◌++◌, false, length, replicate, take}
use Rattle.std.specs.List.{flat_map}
use Rattle.fixpoint_engine.specs.Waves.{waves_of}
use Rattle.fault_chain.specs.Report.{explained}
use Rattle.fault_chain.proofs.reporter.add_explained.Given as goal

-- the faults so far are explained, and no net is met
abbrev pub invariant-loop-fault : goal.invariant-loop-fault
invariant-loop-fault g l =
    (l.out ≡ l.fn.out ++ flat_map (explained l.c (waves_of l.waves)) (take l.fault-index l.faults))
    × (l.met ≡ replicate (length l.c.nets) false)
