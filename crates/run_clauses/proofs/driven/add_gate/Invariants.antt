use Rattle.run_clauses.specs.Meaning.{Adds, IsGate}
use Rattle.run_clauses.proofs.driven.add_gate.Given as goal

abbrev pub invariant-loop-ticks : goal.invariant-loop-ticks
invariant-loop-ticks l = Adds (IsGate l.net) l.fn.formula l.formula
