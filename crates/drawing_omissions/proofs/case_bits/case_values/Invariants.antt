use Rattle.std.proofs.Common.{◌≡◌, take}
use Rattle.drawing_omissions.specs.CaseBits.{case_values}
use Rattle.drawing_omissions.proofs.case_bits.case_values.Given as goal

abbrev pub invariant-loop-bits : goal.invariant-loop-bits
invariant-loop-bits l = l.values ≡ case_values l.c (take l.bits-index l.cases)
