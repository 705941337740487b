use Rattle.std.proofs.Common.{◌≤◌, List, ◌∷◌, ◌++◌, length}
use Rattle.drawing_grammar.specs.Grammar.{Need, part, group}
use Rattle.drawing_grammar.specs.Grammar as g
use Rattle.drawing_grammar.specs.Machine.{Moves}
use Rattle.drawing_reader.specs.Reader.{ahead}
use Rattle.drawing_reader.proofs.cursor.Cursor.entries.Given as goal

abbrev pub invariant-more : goal.invariant-more
invariant-more l = record {
  reads : (rest : List Need) → Moves (ahead l.fn.self (group g.Entries 0 ∷ rest)) (ahead l.self (part g.MoreEntries 0 ∷ rest)) (λ v. (l.all ++ v.0, v.1));
  no_longer : length l.self.rest ≤ length l.fn.self.rest;
}

abbrev pub decreases-more : goal.decreases-more
decreases-more l = length l.self.rest
