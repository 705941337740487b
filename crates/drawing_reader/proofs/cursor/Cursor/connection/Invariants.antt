use Rattle.std.proofs.Common.{◌≤◌, List, ◌∷◌, ◌++◌, length, map}
use Rattle.drawing_grammar.specs.Grammar.{Need, part, group}
use Rattle.drawing_grammar.specs.Grammar as g
use Rattle.drawing_grammar.specs.Machine.{Moves}
use Rattle.drawing_reader.specs.Reader.{ahead}
use Rattle.drawing_tree.specs.Tree.{term_of}
use Rattle.drawing_reader.proofs.cursor.Cursor.connection.Given as goal

abbrev pub invariant-terms : goal.invariant-terms
invariant-terms l = record {
  reads : (rest : List Need) → Moves (ahead l.fn.self (group g.Conn 0 ∷ rest)) (ahead l.self (part g.MoreTerms 0 ∷ part g.Hold 0 ∷ rest))
      (λ v. (record { terms = map term_of l.terms ++ v.0; hold = v.1.0; place = l.place }, v.1.1));
  no_longer : length l.self.rest ≤ length l.fn.self.rest;
}

abbrev pub decreases-terms : goal.decreases-terms
decreases-terms l = length l.self.rest
