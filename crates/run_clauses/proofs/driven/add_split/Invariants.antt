use Rattle.run_clauses.specs.Meaning.{Adds, IsSplitGate}
use Rattle.run_clauses.proofs.driven.add_split.Given as goal

abbrev pub invariant-loop-slow : goal.invariant-loop-slow
invariant-loop-slow l = Adds (IsSplitGate l.net) l.fn.formula l.formula

abbrev pub invariant-loop-fast : goal.invariant-loop-fast
invariant-loop-fast l = Adds (IsSplitGate l.net) l.fn.formula l.formula
