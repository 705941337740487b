use Rattle.std.proofs.Common.{take}
use Rattle.clause_check.specs.Propagation.{Leaves}
use Rattle.clause_check.proofs.propagation.rest_of.Given as goal

abbrev pub invariant-loop-literal : goal.invariant-loop-literal
invariant-loop-literal l = Leaves l.given l.step (take l.literal-index l.clause) l.rest
