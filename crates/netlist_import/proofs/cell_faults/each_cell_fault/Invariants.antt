use Rattle.std.proofs.Common.{◌≡◌, map, drop}
use Rattle.netlist_import.specs.Fault.{each, cell_fault}
use Rattle.netlist_import.specs.Placed.{member_of}
use Rattle.netlist_import.proofs.cell_faults.each_cell_fault.Given as goal

abbrev pub invariant-loop-cell : goal.invariant-loop-cell
invariant-loop-cell l =
    each (cell_fault l.types) (map member_of l.cells)
    ≡ each (cell_fault l.types) (map member_of (drop l.cell-index l.cells))
