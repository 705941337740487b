use Rattle.run_clauses.specs.Meaning.{Adds, ShowsNet}
use Rattle.run_clauses.proofs.pins.add_shown.Given as goal

abbrev pub invariant-loop-ticks : goal.invariant-loop-ticks
invariant-loop-ticks l = Adds (ShowsNet l.at l.net l.inverted) l.fn.formula l.formula
