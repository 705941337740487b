use Rattle.std.proofs.Common.{◌≡◌, ◌++◌, drop, map}
use Rattle.netlist_import.specs.Design.{empty_macro, macros_text}
use Rattle.netlist_import.proofs.library.add_kinds.Given as goal

abbrev pub invariant-loop-shape : goal.invariant-loop-shape
invariant-loop-shape l =
    l.initial.out ++ macros_text (map empty_macro l.shapes)
    ≡ l.out ++ macros_text (map empty_macro (drop l.shape-index l.shapes))
