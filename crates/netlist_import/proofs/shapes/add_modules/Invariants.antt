use Rattle.std.proofs.Common.{◌≡◌, ◌++◌, map, drop}
use Rattle.netlist_import.specs.Fresh.{names_after}
use Rattle.netlist_import.specs.Kinds.{formals_of}
use Rattle.netlist_import.specs.Shapes.{shaped}
use Rattle.netlist_import.specs.Words.{kind_word_of}
use Rattle.netlist_import.proofs.shapes.add_modules.Given as goal

abbrev pub invariant-loop-module : goal.invariant-loop-module
invariant-loop-module l = record {
  names :
      l.initial.names ++ names_after l.initial.names (map (λ m. kind_word_of m.name) l.modules)
      ≡ l.names ++ names_after l.names (map (λ m. kind_word_of m.name)
      (drop l.module-index l.modules));
  shapes :
      l.initial.shapes ++ shaped (names_after l.initial.names
      (map (λ m. kind_word_of m.name) l.modules)) (map (λ m. formals_of m.ports) l.modules)
      ≡ l.shapes ++ shaped (names_after l.names
      (map (λ m. kind_word_of m.name) (drop l.module-index l.modules)))
      (map (λ m. formals_of m.ports) (drop l.module-index l.modules));
}
