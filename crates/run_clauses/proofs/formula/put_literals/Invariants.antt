use Rattle.std.proofs.Common.{◌≡◌, take, All}
use Rattle.run_clauses.specs.Formula.{Begins, Speaks, clause_by}
use Rattle.run_clauses.proofs.formula.put_literals.Given as goal

abbrev pub invariant-loop-said : goal.invariant-loop-said
invariant-loop-said l = record {
  more : Begins l.fn.facts.items l.facts.items;
  within : All (Speaks l.facts.items) l.literals.items;
  said : clause_by l.facts.items l.literals.items ≡ take l.said-index l.clause;
}
