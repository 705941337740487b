use Rattle.std.proofs.Common.{◌≤◌, All}
use Rattle.clause_check.specs.Clauses.{Implies}
use Rattle.clause_check.proofs.check.take_steps.Given as goal

abbrev pub invariant-loop-i : goal.invariant-loop-i
invariant-loop-i l = record {
  steps : All (λ g. g.step ≤ l.i) l.given;
  implied : Implies l.initial.clauses l.clauses;
}
