use Rattle.std.proofs.Common.{All, length, take}
use Rattle.flat_circuit.specs.Stable.{IsAsNumbersIn}
use Rattle.flat_circuit.proofs.case_values.are_cases_as_their_numbers.Given as goal

abbrev pub invariant-loop-case : goal.invariant-loop-case
invariant-loop-case l = All (IsAsNumbersIn (length l.c.nets) l.classes) (take l.case-index l.cases)
