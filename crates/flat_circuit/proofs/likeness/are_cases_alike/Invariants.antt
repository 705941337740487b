use Rattle.std.proofs.Common.{take}
use Rattle.flat_circuit.specs.Alike.{CasesAlike}
use Rattle.flat_circuit.proofs.likeness.are_cases_alike.Given as goal

abbrev pub invariant-loop-case : goal.invariant-loop-case
invariant-loop-case l = CasesAlike (take l.case-index l.cases) l.net l.other
