use Rattle.std.proofs.Common.{◌≡◌, map, take}
use Rattle.drawing_omissions.specs.CaseBits.{bits_of}
use Rattle.drawing_omissions.proofs.case_bits.written_cases.Given as goal

abbrev pub invariant-loop-case : goal.invariant-loop-case
invariant-loop-case l = l.cases ≡ map bits_of (take l.case-index l.drawing.cases)
