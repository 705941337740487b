use Rattle.std.proofs.Common.{◌≡◌, ◌++◌, map, take, drop}
use Rattle.vector_names.specs.Bits.{complemented}
use Rattle.vector_names.proofs.bits.complement.Given as goal

abbrev pub invariant-loop-i : goal.invariant-loop-i
invariant-loop-i l = l.a ≡ map complemented (take l.i l.initial.a) ++ drop l.i l.initial.a
