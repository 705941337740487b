use Rattle.std.proofs.Common.{◌+◌, ◌-◌, ◌*◌, ◌≤◌, List, ◌∷◌, length}
use Rattle.drawing_tree.specs.Expression.{expression_of}
use Rattle.drawing_grammar.specs.Grammar.{Need, part, group, Product, Sum, Factors, Terms}
use Rattle.drawing_grammar.specs.Machine.{Moves}
use Rattle.drawing_reader.specs.Reader.{ahead}
use Rattle.drawing_reader.proofs.cursor.Cursor.+expression.Given as goal

abbrev pub decreases-unary : goal.decreases-unary
decreases-unary l = 4 * (64 - l.depth)

abbrev pub decreases-product : goal.decreases-product
decreases-product l = 4 * (64 - l.depth) + 1

abbrev pub decreases-sum : goal.decreases-sum
decreases-sum l = 4 * (64 - l.depth) + 2

abbrev pub decreases-whole : goal.decreases-whole
decreases-whole l = 4 * (64 - l.depth) + 3

abbrev pub invariant-product-factors : goal.invariant-product-factors
invariant-product-factors l = record {
  reads : (rest : List Need) → Moves (ahead l.fn.self (group Product l.depth ∷ rest)) (ahead l.self (part Factors l.depth ∷ rest)) (λ v. (v.0 (expression_of l.left), v.1));
  no_longer : length l.self.rest ≤ length l.fn.self.rest;
}

abbrev pub decreases-product-factors : goal.decreases-product-factors
decreases-product-factors l = length l.self.rest

abbrev pub invariant-sum-terms : goal.invariant-sum-terms
invariant-sum-terms l = record {
  reads : (rest : List Need) → Moves (ahead l.fn.self (group Sum l.depth ∷ rest)) (ahead l.self (part Terms l.depth ∷ rest)) (λ v. (v.0 (expression_of l.left), v.1));
  no_longer : length l.self.rest ≤ length l.fn.self.rest;
}

abbrev pub decreases-sum-terms : goal.decreases-sum-terms
decreases-sum-terms l = length l.self.rest
