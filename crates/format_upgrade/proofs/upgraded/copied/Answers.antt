use Rattle.std.proofs.Common.{◌≡◌, ◌∙◌, map, refl, ap, sym}
use Rattle.drawing_tree.specs.Tree.{assignment_of, macro_of, statements_of, drawing_of}
use Rattle.format_upgrade.specs.Order.{in_order_drawing, in_order_macro, in_order_statements}
use Rattle.format_upgrade.proofs.upgraded.copied.Goals as goal

pub returns : goal.returns
returns c =
    let d = drawing_of c.args.drawing.now in
    let order = c.args.order in
    let consts : map assignment_of c.in_ok-trees.field-0 ≡ d.consts = c.in_ok-trees.ensures ∙ ap (map assignment_of) c.as_slice.ensures in
    let places = c.in_ok-copies.ensures ∙ c.as_slice-2.ensures in
    let macros : map macro_of c.in_ok-macros.field-0 ≡ map (in_order_macro order) d.macros =
    c.in_ok-macros.ensures ∙ ap (λ ms. map (in_order_macro order) (map macro_of ms)) c.as_slice-3.ensures in
    let body : statements_of c.in_ok-statements.field-0.items ≡ in_order_statements order d.body =
    c.in_ok-statements.ensures ∙ ap (λ ss. in_order_statements order (statements_of ss)) c.as_slice-4.ensures.value in
    let cases = c.in_ok-copies-2.ensures ∙ c.as_slice-5.ensures in
    let same : in_order_drawing c.args.version order d ≡ drawing_of (record {
      version = c.args.version;
      header = c.args.drawing.now.header;
      consts = c.in_ok-trees.field-0;
      const_places = c.in_ok-copies.field-0;
      macros = c.in_ok-macros.field-0;
      name = c.in_ok-bytes.field-0;
      body = c.in_ok-statements.field-0;
      cases = c.in_ok-copies-2.field-0;
    }) = rw (consts, places, macros, c.in_ok-bytes.ensures, body, cases) refl in
    sym same
