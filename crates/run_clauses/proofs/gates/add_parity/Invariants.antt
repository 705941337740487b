use Rattle.run_clauses.specs.Meaning.{Adds, IsParity}
use Rattle.run_clauses.proofs.gates.add_parity.Given as goal

abbrev pub invariant-loop-pin : goal.invariant-loop-pin
invariant-loop-pin l = Adds (IsParity l.gate) l.fn.formula l.formula
