use Rattle.std.proofs.Common.{◌≡◌, ◌++◌, drop}
use Rattle.narrowing.specs.Narrowed.{constants, narrowed_values}
use Rattle.narrowing.proofs.leaf.narrowed_values.Given as goal

abbrev pub invariant-loop-part : goal.invariant-loop-part
invariant-loop-part l = l.case ++ constants (drop l.part-index l.parts) ≡ narrowed_values l.values l.parts
