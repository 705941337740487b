use Rattle.std.proofs.Common.{◌≡◌, ◌++◌, take}
use Rattle.std.specs.List.{flat_map}
use Rattle.listing.specs.Fault.{fault_line}
use Rattle.listing.proofs.fault.add_faults.Given as goal

abbrev pub invariant-loop-fault : goal.invariant-loop-fault
invariant-loop-fault l = l.out ≡ l.fn.out ++ flat_map (fault_line l.c) (take l.fault-index l.faults)
