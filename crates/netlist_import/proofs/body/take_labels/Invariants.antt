use Rattle.std.proofs.Common.{◌≡◌, ◌≤◌, ◌++◌, drop}
use Rattle.netlist_import.specs.Body.{cell_labels}
use Rattle.netlist_import.specs.Fresh.{names_after}
use Rattle.netlist_import.proofs.body.take_labels.Given as goal

abbrev pub invariant-loop-cell : goal.invariant-loop-cell
invariant-loop-cell l = record {
  labels :
      l.initial.labels ++ names_after l.initial.labels (cell_labels 0 l.cells)
      ≡ l.labels ++ names_after l.labels (cell_labels l.hidden (drop l.cell-index l.cells));
  hidden : l.hidden ≤ l.cell-index;
}
