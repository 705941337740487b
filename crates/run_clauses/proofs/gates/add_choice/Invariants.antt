use Rattle.run_clauses.specs.Meaning.{Adds, IsChoice}
use Rattle.run_clauses.proofs.gates.add_choice.Given as goal

abbrev pub invariant-loop-number : goal.invariant-loop-number
invariant-loop-number l = Adds (IsChoice l.gate l.selects) l.fn.formula l.formula
