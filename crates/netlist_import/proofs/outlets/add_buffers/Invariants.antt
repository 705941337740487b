use Rattle.std.proofs.Common.{◌≡◌, ◌++◌, drop}
use Rattle.std.specs.Prelude.{codes}
use Rattle.drawing_tree.specs.Canonical.{statements_lines}
use Rattle.netlist_import.specs.Body.{buffer_labels, buffers, listed}
use Rattle.netlist_import.specs.Fresh.{names_after}
use Rattle.netlist_import.proofs.outlets.add_buffers.Given as goal

abbrev pub invariant-loop-number : goal.invariant-loop-number
invariant-loop-number l =
    l.initial.out ++ statements_lines (codes "  ")
    (listed (buffers l.nets.list (names_after l.initial.labels (buffer_labels 0 l.outlets))
    l.outlets))
    ≡ l.out ++ statements_lines (codes "  ") (listed (buffers l.nets.list
    (names_after l.labels (buffer_labels l.number (drop l.number l.outlets)))
    (drop l.number l.outlets)))
