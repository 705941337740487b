use Rattle.std.proofs.Common.{◌≡◌, ℕ, List, ◌++◌, subst}
use Rattle.std.proofs.lemmas.Result.{on_ok_weaker}
use Rattle.flat_circuit.specs.declared.case.CaseValue.{CaseValue}
use Rattle.flat_circuit.specs.Circuit.{Circuit}
use Rattle.drawing_omissions.specs.Lines.{Lines, Adds}
use Rattle.drawing_omissions.specs.Loose.{loose_nets}
use Rattle.drawing_omissions.specs.Names.{name_notes}
use Rattle.drawing_omissions.specs.Near.{near}
use Rattle.drawing_omissions.specs.Part.{part}
use Rattle.drawing_omissions.proofs.Adding.{adds_both}
use Rattle.drawing_omissions.proofs.names.add_names.Goals as goal

names_added : (c : Circuit) (cases : List (List CaseValue)) (loose : List ℕ) (t0 t1 t2 : Lines) →
    loose ≡ loose_nets c cases → Adds t0 t1 (part c loose) → Adds t1 t2 (near c cases loose) →
    Adds t0 t2 (name_notes c cases)
names_added c cases loose t0 t1 t2 is a b =
    subst (λ (ls : List ℕ). Adds t0 t2 (part c ls ++ near c cases ls)) is
    (adds_both (part c loose) (near c cases loose) t0 t1 t2 a b)

pub returns : goal.returns
returns c =
    let circuit = c.args.c.now in
    let cases = c.args.cases.now in
    on_ok_weaker c.add_near.result
    (λ more. names_added circuit cases c.in_ok-loose.loose.items c.args.notes.now c.add_part.new.notes c.add_near.new.notes
    (c.in_ok-loose.ensures cases c.in_ok-set.ensures)
    (subst (λ (ls : List ℕ). Adds c.args.notes.now c.add_part.new.notes (part circuit ls)) c.deref.ensures.value c.in_ok-add_part.ensures)
    (subst (λ (ls : List ℕ). Adds c.add_part.new.notes c.add_near.new.notes (near circuit cases ls)) c.deref-2.ensures.value (more cases c.in_ok-set.ensures)))
    c.add_near.ensures
