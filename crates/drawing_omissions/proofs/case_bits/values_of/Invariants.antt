use Rattle.std.proofs.Common.{◌≡◌, take}
use Rattle.drawing_omissions.specs.CaseBits.{values_of}
use Rattle.drawing_omissions.proofs.case_bits.values_of.Given as goal

abbrev pub invariant-loop-bit : goal.invariant-loop-bit
invariant-loop-bit l = l.values ≡ values_of l.c (take l.bit-index l.bits)
