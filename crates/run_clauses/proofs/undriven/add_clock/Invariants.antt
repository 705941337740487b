use Rattle.run_clauses.specs.Meaning.{Adds, IsClock}
use Rattle.run_clauses.proofs.undriven.add_clock.Given as goal

abbrev pub invariant-loop-by : goal.invariant-loop-by
invariant-loop-by l = Adds (IsClock l.input l.h l.clock) l.fn.formula l.formula
