use Rattle.run_clauses.specs.Meaning.{Adds, IsEdge}
use Rattle.run_clauses.proofs.breaks.add_edge.Given as goal

abbrev pub invariant-loop-edge : goal.invariant-loop-edge
invariant-loop-edge l = Adds (IsEdge l.k l.setup l.hold l.fn.period) l.fn.formula l.formula

abbrev pub invariant-loop-change : goal.invariant-loop-change
invariant-loop-change l = Adds (IsEdge l.k l.setup l.hold l.fn.period) l.fn.formula l.formula
