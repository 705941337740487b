use Rattle.std.proofs.Common.{◌≡◌, ◌∙◌, sym, ap, subst, Some}
use Rattle.drawing_tree.specs.Tree.{drawing_of, statements_of, use_of}
use Rattle.macro_expander.specs.Macros.{macro_of}
use Rattle.drawing_places.specs.Body.{trees}
use Rattle.drawing_places.specs.Find.{first_found}
use Rattle.drawing_places.specs.Uses.{body_in, body_of, use_in, use_labelled}
use Rattle.drawing_places.proofs.Leading.{Leads, leads_on}
use Rattle.drawing_places.proofs.uses.scope_of.Goals as goal

pub labels-preserved : goal.labels-preserved
labels-preserved c =
    let d = drawing_of c.args.drawing.now in
    let found = c.in-Some-use_in.found in
    let label = c.in-Some.label.now in
    let body = statements_of c.labels.body.now in
    let next = statements_of c.body_of-body.result.now in
    let is : use_in body label ≡ Some (use_of found.now) =
    sym (c.in-Some-use_in.ensures ∙ ap (λ ss. first_found (use_labelled label) (trees ss)) c.as_slice-in-Some.ensures ∙ ap (first_found (use_labelled label)) c.in_ok-written.ensures) in
    let there : next ≡ body_of d.macros (use_of found.now) = c.body_of-body.ensures ∙ ap (λ name. body_in (macro_of name d.macros)) c.as_slice-in-Some-2.ensures in
    subst (λ uses. Leads d c.args.scope.now uses next c.in-Some.more.now) (sym c.in_ok-push.ensures.ok)
    (leads_on d c.args.scope.now c.labels.uses body next c.labels.rest.now label c.in-Some.more.now found c.in-Some.ensures.some is there c.labels.invariant)
