use Rattle.std.proofs.Common.{◌≡◌, ◌++◌, drop, map}
use Rattle.std.specs.Prelude.{codes, slice_get}
use Rattle.drawing_tree.specs.Canonical.{statements_lines}
use Rattle.netlist_import.specs.Body.{cells_written, listed}
use Rattle.netlist_import.proofs.body.add_cells.Given as goal

abbrev pub invariant-loop-place : goal.invariant-loop-place
invariant-loop-place l = record {
  text :
      l.initial.out ++ statements_lines (codes "  ")
      (listed (cells_written l.cells l.labels (map (slice_get l.shapes) l.targets)
      l.initial.nets).statements)
      ≡ l.out ++ statements_lines (codes "  ")
      (listed (cells_written (drop l.place l.cells) (drop l.place l.labels)
      (map (slice_get l.shapes) (drop l.place l.targets)) l.nets).statements);
  nets :
      (cells_written l.cells l.labels (map (slice_get l.shapes) l.targets) l.initial.nets).nets
      ≡ (cells_written (drop l.place l.cells) (drop l.place l.labels)
      (map (slice_get l.shapes) (drop l.place l.targets)) l.nets).nets;
}
