use Rattle.std.proofs.Common.{◌≤◌, All, []}
use Rattle.clause_check.specs.Propagation.{Supposes}
use Rattle.clause_check.proofs.propagation.suppose_false.Given as goal

abbrev pub invariant-loop-literal : goal.invariant-loop-literal
invariant-loop-literal l = record {
  steps : All (λ g. g.step ≤ l.step) l.given;
  supposes : Supposes [] l.lemma l.given l.step;
}
