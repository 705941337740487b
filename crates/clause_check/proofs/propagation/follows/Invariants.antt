use Rattle.std.proofs.Common.{◌≤◌, All}
use Rattle.clause_check.specs.Propagation.{Supposes}
use Rattle.clause_check.proofs.propagation.follows.Given as goal

abbrev pub invariant-loop-hint : goal.invariant-loop-hint
invariant-loop-hint l = record {
  steps : All (λ g. g.step ≤ l.step) l.given;
  supposes : Supposes l.clauses l.lemma l.given l.step;
}
