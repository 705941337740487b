use Rattle.std.proofs.Common.{◌≡◌, ◌++◌, take}
use Rattle.macro_expander.proofs.connection.keep.Given as goal

abbrev pub invariant-loop-bit : goal.invariant-loop-bit
invariant-loop-bit l = l.bits ≡ l.fn.bits ++ take l.bit-index l.more
