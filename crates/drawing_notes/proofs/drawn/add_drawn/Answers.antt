use Rattle.std.proofs.Common.{ℕ, List, length, ap, sym, subst, ◌∙◌}
use Rattle.std.proofs.lemmas.Result.{on_ok_weaker}
use Rattle.scald_base.specs.declared.refusal.Place.{Place}
use Rattle.flat_circuit.specs.declared.case.CaseValue.{CaseValue}
use Rattle.drawing_omissions.specs.Same.{AreWithin}
use Rattle.drawing_omissions.specs.declared.spread.Finding.{Finding}
use Rattle.drawing_omissions.specs.Lines.{Adds}
use Rattle.drawing_omissions.specs.CaseBits.{case_values}
use Rattle.drawing_omissions.specs.CaseNotes.{case_notes}
use Rattle.drawing_omissions.specs.Names.{name_notes}
use Rattle.drawing_omissions.specs.Fors.{empty}
use Rattle.drawing_omissions.specs.Spread.{spread}
use Rattle.drawing_notes.proofs.Drawing.{drawn_added}
use Rattle.drawing_notes.proofs.drawn.add_drawn.Goals as goal

pub add_names-requires : goal.add_names-requires
add_names-requires c = subst (AreWithin (length c.args.c.now.nets)) (sym c.as_slice-2.ensures) c.in_ok-cases.ensures.within

pub add_cases-requires : goal.add_cases-requires
add_cases-requires c =
    subst (λ (n : ℕ). AreWithin n c.as_slice-6.result.now) (sym c.net_count.ensures)
    (subst (AreWithin (length c.args.c.now.nets)) (sym c.as_slice-6.ensures) c.in_ok-cases.ensures.within)

pub returns : goal.returns
returns c =
    let circuit = c.args.c.now in
    let kept = c.args.kept.now in
    let cases = c.in_ok-cases.cases in
    on_ok_weaker c.add_cases.result
    (λ more. drawn_added circuit kept cases c.args.notes.now c.add_names.new.notes c.add_spread.new.notes c.add_empty.new.notes c.add_cases.new.notes
    (c.in_ok-cases.ensures.are ∙ ap (case_values circuit) c.as_slice.ensures)
    (subst (λ (cs : List (List CaseValue)). Adds c.args.notes.now c.add_names.new.notes (name_notes circuit cs)) c.as_slice-2.ensures c.in_ok-add_names.ensures)
    (subst (λ (fs : List Finding). Adds c.add_names.new.notes c.add_spread.new.notes (spread circuit fs)) c.as_slice-3.ensures c.in_ok-add_spread.ensures)
    (subst (λ (ps : List Place). Adds c.add_spread.new.notes c.add_empty.new.notes (empty ps kept.found)) c.as_slice-4.ensures
    (subst (λ (fs : List Finding). Adds c.add_spread.new.notes c.add_empty.new.notes (empty c.as_slice-4.result.now fs)) c.as_slice-5.ensures c.in_ok-add_empty.ensures))
    (subst (λ (cs : List (List CaseValue)). Adds c.add_empty.new.notes c.add_cases.new.notes (case_notes cs)) c.as_slice-6.ensures more))
    c.add_cases.ensures
