use Rattle.std.proofs.Common.{◌≡◌, ◌∙◌, sym, ap, subst, refl, false, IfOk}
use Rattle.std.specs.Option.{option_map}
use Rattle.drawing_tree.specs.Tree.{drawing_of, statements_of}
use Rattle.drawing_places.specs.Path.{is_global_text}
use Rattle.drawing_places.specs.Names.{sought_by, spot_in_body, spot_of, spot_seen}
use Rattle.drawing_places.proofs.names.spot_of.Goals as goal

pub returns : goal.returns
returns c =
    let d = drawing_of c.args.drawing.now in
    let text = c.args.text.now in
    let spec = c.args.spec.now in
    let body = statements_of c.in_ok-scope.scope.body.now in
    let within : is_global_text text ≡ false = sym c.is_global_text.ensures ∙ c.if-is_global_text.false in
    let there : spot_of d text spec ≡ spot_in_body (sought_by text spec) body =
    rw (within, c.in_ok-scope.ensures.body, c.scope_len.ensures.scope) refl in
    subst (λ spot. IfOk c.spot_in_body.result (λ found. option_map spot_seen found ≡ spot))
    (ap (λ sought. spot_in_body sought body) c.wanted_for-wanted.ensures ∙ sym there) c.spot_in_body.ensures
