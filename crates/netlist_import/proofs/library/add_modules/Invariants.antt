use Rattle.std.proofs.Common.{◌≡◌, ◌++◌, drop}
use Rattle.netlist_import.specs.Design.{macros_text, modules_written}
use Rattle.netlist_import.proofs.library.add_modules.Given as goal

abbrev pub invariant-loop-place : goal.invariant-loop-place
invariant-loop-place l =
    l.initial.out ++ macros_text (modules_written l.shapes l.modules l.shapes l.targets)
    ≡ l.out ++ macros_text (modules_written l.shapes (drop l.place l.modules)
    (drop l.place l.shapes) (drop l.place l.targets))
