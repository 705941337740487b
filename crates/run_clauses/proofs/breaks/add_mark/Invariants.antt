use Rattle.run_clauses.specs.Meaning.{Adds, IsLetThrough}
use Rattle.run_clauses.proofs.breaks.add_mark.Given as goal

abbrev pub invariant-loop-tick : goal.invariant-loop-tick
invariant-loop-tick l = Adds (IsLetThrough l.k l.marked l.pins l.closed l.fn.period) l.fn.formula
    l.formula

abbrev pub invariant-loop-beside : goal.invariant-loop-beside
invariant-loop-beside l = Adds (IsLetThrough l.k l.marked l.pins l.closed l.fn.period) l.fn.formula
    l.formula
