use Rattle.std.proofs.Common.{◌≡◌, ◌++◌, take}
use Rattle.vector_names.proofs.bits.add_all.Given as goal

abbrev pub invariant-loop-bit : goal.invariant-loop-bit
invariant-loop-bit l = l.bits ≡ l.fn.bits ++ take l.bit-index l.more
