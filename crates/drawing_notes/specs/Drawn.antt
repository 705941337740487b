-- The notes that need no waves, by what is kept of a drawing.
use Rattle.std.specs.Prelude.{ℕ, List, ◌++◌}
use Rattle.flat_circuit.specs.declared.case.CaseValue.{CaseValue}
use Rattle.flat_circuit.specs.Circuit.{Circuit}
use Rattle.drawing_notes.specs.declared.reply.Kept.{Kept}
use Rattle.drawing_omissions.specs.CaseBits.{case_values}
use Rattle.drawing_omissions.specs.CaseNotes.{case_notes}
use Rattle.drawing_omissions.specs.Fors.{empty}
use Rattle.drawing_omissions.specs.Names.{name_notes}
use Rattle.drawing_omissions.specs.Spread.{spread}

-- by what is found in the expansion, and by the cases
abbrev pub with_cases : Circuit → Kept → List (List CaseValue) → List (List ℕ)
with_cases c kept cases =
    name_notes c cases ++ (spread c kept.found ++ (empty kept.fors kept.found ++ case_notes cases))

-- kind by kind
abbrev pub drawn_notes : Circuit → Kept → List (List ℕ)
drawn_notes c kept = with_cases c kept (case_values c kept.cases)
