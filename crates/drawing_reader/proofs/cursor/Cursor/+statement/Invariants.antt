use Rattle.std.proofs.Common.{◌+◌, ◌-◌, ◌*◌, ◌≤◌, List, ◌∷◌, length, map}
use Rattle.drawing_tree.specs.Tree.{statement_of}
use Rattle.drawing_grammar.specs.Grammar.{Need, group, Statements}
use Rattle.drawing_grammar.specs.Machine.{Moves}
use Rattle.drawing_reader.specs.Reader.{ahead}
use Rattle.drawing_reader.specs.Statements.{followed}
use Rattle.drawing_reader.proofs.cursor.Cursor.+statement.Given as goal

abbrev pub decreases-if_statement : goal.decreases-if_statement
decreases-if_statement l = 4 * (64 - l.depth) + 1

abbrev pub decreases-for_statement : goal.decreases-for_statement
decreases-for_statement l = 4 * (64 - l.depth) + 1

abbrev pub decreases-statement : goal.decreases-statement
decreases-statement l = 4 * (64 - l.depth) + 2

abbrev pub decreases-statements : goal.decreases-statements
decreases-statements l = 4 * (64 - l.depth) + 3

abbrev pub decreases-otherwise : goal.decreases-otherwise
decreases-otherwise l = 4 * (64 - l.depth) + 4

abbrev pub invariant-statements-each : goal.invariant-statements-each
invariant-statements-each l = record {
  reads : (rest : List Need) → Moves (ahead l.fn.self (group (Statements l.edition) l.depth ∷ rest)) (ahead l.self (group (Statements l.edition) l.depth ∷ rest))
      (λ v. (followed (map statement_of l.all.items) v.0, v.1));
  no_longer : length l.self.rest ≤ length l.fn.self.rest;
}

abbrev pub decreases-statements-each : goal.decreases-statements-each
decreases-statements-each l = length l.self.rest
