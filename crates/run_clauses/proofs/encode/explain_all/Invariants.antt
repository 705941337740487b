use Rattle.run_clauses.specs.World.{StayTrueInCase}
use Rattle.run_clauses.proofs.encode.explain_all.Given as goal

abbrev pub invariant-loop-number : goal.invariant-loop-number
invariant-loop-number l = StayTrueInCase l.c l.values l.fn.formula l.formula
