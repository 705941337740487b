use Rattle.std.proofs.Common.{◌≤◌, List, ◌∷◌, ◌++◌, length, map}
use Rattle.drawing_tree.specs.Tree as tree
use Rattle.drawing_grammar.specs.Grammar.{Need, part, group}
use Rattle.drawing_grammar.specs.Grammar as g
use Rattle.drawing_grammar.specs.Machine.{Moves}
use Rattle.drawing_reader.specs.Reader.{ahead}
use Rattle.drawing_reader.proofs.cursor.Cursor.definitions.Given as goal

abbrev pub invariant-each : goal.invariant-each
invariant-each l = record {
  reads : (rest : List Need) → Moves (ahead l.fn.self (group (g.Macros l.edition) 0 ∷ rest)) (ahead l.self (group (g.Macros l.edition) 0 ∷ rest))
      (λ v. (record { macros = map tree.macro_of l.all ++ v.0.macros; heads = l.heads ++ v.0.heads }, v.1));
  no_longer : length l.self.rest ≤ length l.fn.self.rest;
}

abbrev pub decreases-each : goal.decreases-each
decreases-each l = length l.self.rest
