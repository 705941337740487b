use Rattle.std.proofs.Common.{◌≡◌, drop}
use Rattle.std.specs.List.{list_any}
use Rattle.narrowing.specs.Constraint.{is_of}
use Rattle.narrowing.proofs.leaf.any_is_of.Given as goal

abbrev pub invariant-loop-fault : goal.invariant-loop-fault
invariant-loop-fault l = list_any (is_of l.x) (drop l.fault-index l.faults) ≡ list_any (is_of l.x) l.faults
