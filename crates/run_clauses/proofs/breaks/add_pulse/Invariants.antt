use Rattle.run_clauses.specs.Meaning.{Adds, IsNarrow}
use Rattle.run_clauses.proofs.breaks.add_pulse.Given as goal

abbrev pub invariant-loop-start : goal.invariant-loop-start
invariant-loop-start l = Adds (IsNarrow l.k l.width l.high l.fn.period) l.fn.formula l.formula

abbrev pub invariant-loop-end : goal.invariant-loop-end
invariant-loop-end l = Adds (IsNarrow l.k l.width l.high l.fn.period) l.fn.formula l.formula
