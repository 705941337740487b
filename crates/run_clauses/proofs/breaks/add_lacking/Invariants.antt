use Rattle.run_clauses.specs.Meaning.{Adds, IsLacking}
use Rattle.run_clauses.proofs.breaks.add_lacking.Given as goal

abbrev pub invariant-loop-tick : goal.invariant-loop-tick
invariant-loop-tick l = Adds (IsLacking l.h l.fn.spec l.net l.fn.period) l.fn.formula l.formula
