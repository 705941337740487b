use Rattle.std.proofs.Common.{◌≡◌, map, drop}
use Rattle.netlist_import.specs.Fault.{each, named_direction_fault}
use Rattle.netlist_import.specs.Placed.{member_of}
use Rattle.netlist_import.proofs.cell_faults.each_direction_fault.Given as goal

abbrev pub invariant-loop-direction : goal.invariant-loop-direction
invariant-loop-direction l =
    each named_direction_fault (map member_of l.directions)
    ≡ each named_direction_fault (map member_of (drop l.direction-index l.directions))
