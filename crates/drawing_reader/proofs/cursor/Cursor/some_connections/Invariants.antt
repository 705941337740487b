use Rattle.std.proofs.Common.{◌≤◌, List, ◌∷◌, ◌++◌, length, map}
use Rattle.drawing_grammar.specs.Grammar.{Need, part, group}
use Rattle.drawing_grammar.specs.Grammar as g
use Rattle.drawing_grammar.specs.Machine.{Moves}
use Rattle.drawing_reader.specs.Reader.{ahead}
use Rattle.drawing_tree.specs.Tree as tree
use Rattle.drawing_reader.proofs.cursor.Cursor.some_connections.Given as goal

abbrev pub invariant-more : goal.invariant-more
invariant-more l = record {
  reads : (rest : List Need) → Moves (ahead l.fn.self (group g.SomeConns 0 ∷ rest)) (ahead l.self (part g.MoreConns 0 ∷ rest)) (λ v. (map tree.connection_of l.all ++ v.0, v.1));
  no_longer : length l.self.rest ≤ length l.fn.self.rest;
}

abbrev pub decreases-more : goal.decreases-more
decreases-more l = length l.self.rest
