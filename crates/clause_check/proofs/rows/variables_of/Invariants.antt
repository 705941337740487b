use Rattle.std.proofs.Common.{ℕ, ◌<◌, get_or}
use Rattle.clause_check.specs.declared.literal.Literal.{Literal}
use Rattle.clause_check.proofs.rows.variables_of.Given as goal

abbrev pub invariant-loop-literal : goal.invariant-loop-literal
invariant-loop-literal l =
    (k : ℕ) (d : Literal) → k < l.literal-index → (get_or l.literals k d).variable < l.variables
