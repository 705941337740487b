use Rattle.std.proofs.Common.{◌≡◌, ◌∙◌, eq-eqb, ne_eqb}
use Rattle.std.proofs.lemmas.Result.{IfOk-weaker}
use Rattle.drawing_tree.specs.declared.drawing.Drawing.{Drawing}
use Rattle.drawing_tree.specs.Tree.{drawing_of}
use Rattle.format_upgrade.specs.Order.{in_order_drawing}
use Rattle.format_upgrade.specs.Upgraded.{upgraded}
use Rattle.format_upgrade.proofs.Ordered.{upgraded_first, upgraded_second}
use Rattle.format_upgrade.proofs.upgraded.in_last_version.Goals.{then-drawing-eq1, else-drawing-eq1}
use Rattle.format_upgrade.proofs.upgraded.in_last_version.Goals as goal

pub returns : goal.returns
returns c =
    let d = drawing_of c.args.drawing.now in
    let order = c.if-drawing-eq1.order in
    let same : in_order_drawing 2 order d ≡ upgraded d = elim c.if-drawing-eq1.branch [
      | then-drawing-eq1 w ↦ upgraded_first order d w.order-is (eq-eqb d.version 1 w.if-drawing-eq1.true)
      | else-drawing-eq1 w ↦ upgraded_second order d w.order-is (ne_eqb d.version 1 w.if-drawing-eq1.false)
    ] in
    IfOk-weaker c.copied.result (λ (copy : Drawing). drawing_of copy ≡ in_order_drawing 2 order d)
    (λ (copy : Drawing). drawing_of copy ≡ upgraded d) (λ copy is. is ∙ same) c.copied.ensures
