use Rattle.std.proofs.Common.{◌≡◌, ◌++◌, map, drop}
use Rattle.netlist_import.specs.Kinds.{kinds_after, uses_after}
use Rattle.netlist_import.specs.Shapes.{number_of_used}
use Rattle.netlist_import.proofs.kinds.targets_of.Given as goal

abbrev pub invariant-loop-cell : goal.invariant-loop-cell
invariant-loop-cell l = record {
  targets :
      map (number_of_used l.types) (uses_after l.types l.initial.kinds l.cells)
      ≡ l.targets ++ map (number_of_used l.types)
      (uses_after l.types l.kinds (drop l.cell-index l.cells));
  kinds :
      kinds_after l.types l.initial.kinds l.cells
      ≡ kinds_after l.types l.kinds (drop l.cell-index l.cells);
}
