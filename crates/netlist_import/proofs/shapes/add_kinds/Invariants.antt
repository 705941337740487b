use Rattle.std.proofs.Common.{◌≡◌, ◌++◌, map, drop}
use Rattle.netlist_import.specs.Fresh.{names_after}
use Rattle.netlist_import.specs.Shapes.{shaped}
use Rattle.netlist_import.specs.Words.{kind_word_of}
use Rattle.netlist_import.proofs.shapes.add_kinds.Given as goal

abbrev pub invariant-loop-kind : goal.invariant-loop-kind
invariant-loop-kind l = record {
  names :
      l.initial.names ++ names_after l.initial.names (map (λ k. kind_word_of k.kind) l.kinds)
      ≡ l.names ++ names_after l.names (map (λ k. kind_word_of k.kind)
      (drop l.kind-index l.kinds));
  shapes :
      l.initial.shapes ++ shaped (names_after l.initial.names
      (map (λ k. kind_word_of k.kind) l.kinds)) (map (λ k. k.ports) l.kinds)
      ≡ l.shapes ++ shaped (names_after l.names
      (map (λ k. kind_word_of k.kind) (drop l.kind-index l.kinds)))
      (map (λ k. k.ports) (drop l.kind-index l.kinds));
}
