use Rattle.std.proofs.Common.{drop, map}
use Rattle.drawing_grammar.specs.Names.{Judged}
use Rattle.drawing_reader.specs.Sifted.{naming_of}
use Rattle.drawing_reader.proofs.names.judged_names.Given as goal

abbrev pub invariant-names : goal.invariant-names
invariant-names l =
    Judged l.header (map naming_of l.names) (map naming_of (drop l.name-index l.names))
