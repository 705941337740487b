use Rattle.run_clauses.specs.Meaning.{Adds, IsStorage}
use Rattle.run_clauses.proofs.driven.add_storage.Given as goal

abbrev pub invariant-loop-ticks : goal.invariant-loop-ticks
invariant-loop-ticks l = Adds (IsStorage l.net l.forced l.is_latch) l.fn.formula l.formula
