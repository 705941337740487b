use Rattle.std.proofs.Common.{◌≡◌, List, filter, take}
use Rattle.flat_circuit.specs.declared.case.CaseValue.{CaseValue}
use Rattle.drawing_omissions.specs.Loose.{AreSet, is_loose}
use Rattle.drawing_omissions.proofs.loose.loose_nets.Given as goal

abbrev pub invariant-loop-place : goal.invariant-loop-place
invariant-loop-place l =
    (cases : List (List CaseValue)) → AreSet cases l.set → l.nets.items ≡ filter (is_loose l.c cases) (take l.place l.c.order)
