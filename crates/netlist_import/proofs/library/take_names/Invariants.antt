use Rattle.std.proofs.Common.{◌≡◌, ◌++◌, drop, map}
use Rattle.netlist_import.specs.Fresh.{names_after}
use Rattle.netlist_import.specs.Words.{word_of}
use Rattle.netlist_import.proofs.library.take_names.Given as goal

abbrev pub invariant-loop-port : goal.invariant-loop-port
invariant-loop-port l =
    l.initial.names ++ names_after l.initial.names (map (λ f. word_of f.name) l.ports)
    ≡ l.names ++ names_after l.names (map (λ f. word_of f.name) (drop l.port-index l.ports))
