use Rattle.std.proofs.Common.{◌≡◌, List, take, true}
use Rattle.flat_circuit.specs.declared.case.CaseValue.{CaseValue}
use Rattle.drawing_omissions.specs.Same.{AreHeld, are_in}
use Rattle.drawing_omissions.proofs.held.Held.has_all.Given as goal

abbrev pub invariant-loop-value : goal.invariant-loop-value
invariant-loop-value l = (own : List CaseValue) → AreHeld own l.self → are_in own (take l.value-index l.values) ≡ true
