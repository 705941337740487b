use Rattle.std.proofs.lemmas.Nat.{or_lt}
use Rattle.step_values.proofs.Bytes.{union_has}
use Rattle.step_values.proofs.step_set.StepSet.union.Goals as goal

pub invariant_of-result : goal.invariant_of-result
invariant_of-result c = or_lt 4 _ _ c.self.invariant c.other.invariant

pub returns : goal.returns
returns c before after =
    rw (← c.self.view_is, ← c.other.view_is) (union_has _ _ before after c.self.invariant c.other.invariant)
