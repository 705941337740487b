-- The notes on nets that nothing determines: PART, then NEAR.
use Rattle.std.specs.Prelude.{ℕ, List, ◌++◌}
use Rattle.flat_circuit.specs.declared.case.CaseValue.{CaseValue}
use Rattle.flat_circuit.specs.Circuit.{Circuit}
use Rattle.drawing_omissions.specs.Loose.{loose_nets}
use Rattle.drawing_omissions.specs.Near.{near}
use Rattle.drawing_omissions.specs.Part.{part}

-- by what the cases set
abbrev pub name_notes : Circuit → List (List CaseValue) → List (List ℕ)
name_notes c cases = part c (loose_nets c cases) ++ near c cases (loose_nets c cases)
