use Rattle.std.proofs.Common.{◌≡◌, ◌++◌, drop}
use Rattle.netlist_import.specs.Design.{boxes_written, macros_text}
use Rattle.netlist_import.proofs.library.add_boxes.Given as goal

abbrev pub invariant-loop-place : goal.invariant-loop-place
invariant-loop-place l =
    l.initial.out ++ macros_text (boxes_written l.types l.modules l.shapes)
    ≡ l.out ++ macros_text (boxes_written l.types (drop l.place l.modules) (drop l.place l.shapes))
