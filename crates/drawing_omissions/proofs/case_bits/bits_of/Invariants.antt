use Rattle.std.proofs.Common.{◌≡◌, map, take}
use Rattle.drawing_omissions.specs.CaseBits.{bit_of}
use Rattle.drawing_omissions.proofs.case_bits.bits_of.Given as goal

abbrev pub invariant-loop-entry : goal.invariant-loop-entry
invariant-loop-entry l = l.bits ≡ map bit_of (take l.entry-index l.case.entries)
