use Rattle.std.proofs.Common.{◌≡◌, map, drop}
use Rattle.netlist_import.specs.Fault.{limited}
use Rattle.netlist_import.specs.Placed.{placed_of}
use Rattle.netlist_import.proofs.port_faults.limited_fault.Given as goal

abbrev pub invariant-loop-value : goal.invariant-loop-value
invariant-loop-value l =
    limited l.most (map placed_of l.values) ≡ limited l.left
    (map placed_of (drop l.value-index l.values))
