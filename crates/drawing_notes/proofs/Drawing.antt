-- The notes that need no waves, from those of each kind.
use Rattle.std.proofs.Common.{◌≡◌, List, subst}
use Rattle.flat_circuit.specs.declared.case.CaseValue.{CaseValue}
use Rattle.flat_circuit.specs.Circuit.{Circuit}
use Rattle.drawing_notes.specs.declared.reply.Kept.{Kept}
use Rattle.drawing_omissions.specs.CaseBits.{case_values}
use Rattle.drawing_omissions.specs.CaseNotes.{case_notes}
use Rattle.drawing_omissions.specs.Names.{name_notes}
use Rattle.drawing_notes.specs.Drawn.{drawn_notes, with_cases}
use Rattle.drawing_omissions.specs.Fors.{empty}
use Rattle.drawing_omissions.specs.Lines.{Lines, Adds}
use Rattle.drawing_omissions.specs.Spread.{spread}
use Rattle.drawing_omissions.proofs.Adding.{adds_both}

pub drawn_added : (c : Circuit) (kept : Kept) (cases : List (List CaseValue)) (t0 t1 t2 t3 t4 : Lines) → cases ≡ case_values c kept.cases →
    Adds t0 t1 (name_notes c cases) → Adds t1 t2 (spread c kept.found) → Adds t2 t3 (empty kept.fors kept.found) →
    Adds t3 t4 (case_notes cases) → Adds t0 t4 (drawn_notes c kept)
drawn_added c kept cases t0 t1 t2 t3 t4 is a b d e =
    subst (λ (cs : List (List CaseValue)). Adds t0 t4 (with_cases c kept cs)) is
    (adds_both (name_notes c cases) _ t0 t1 t4 a
    (adds_both (spread c kept.found) _ t1 t2 t4 b
    (adds_both (empty kept.fors kept.found) (case_notes cases) t2 t3 t4 d e)))
