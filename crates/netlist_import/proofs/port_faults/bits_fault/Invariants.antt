use Rattle.std.proofs.Common.{◌≡◌, map, drop}
use Rattle.netlist_import.specs.Fault.{each, bit_fault}
use Rattle.netlist_import.specs.Placed.{placed_of}
use Rattle.netlist_import.proofs.port_faults.bits_fault.Given as goal

abbrev pub invariant-loop-value : goal.invariant-loop-value
invariant-loop-value l =
    each bit_fault (map placed_of l.values) ≡ each bit_fault
    (map placed_of (drop l.value-index l.values))
