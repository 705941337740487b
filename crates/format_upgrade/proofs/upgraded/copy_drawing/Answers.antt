use Rattle.std.proofs.Common.{◌≡◌, ◌∙◌}
use Rattle.std.proofs.lemmas.Result.{IfOk-weaker}
use Rattle.drawing_tree.specs.declared.drawing.Drawing.{Drawing}
use Rattle.drawing_tree.specs.Tree.{drawing_of}
use Rattle.format_upgrade.specs.declared.turned.Order.TheVariants.{Kept}
use Rattle.format_upgrade.specs.Order.{in_order_drawing}
use Rattle.format_upgrade.proofs.Ordered.{kept_same}
use Rattle.format_upgrade.proofs.upgraded.copy_drawing.Goals as goal

pub returns : goal.returns
returns c =
    let d = drawing_of c.args.drawing.now in
    IfOk-weaker c.copied.result (λ (copy : Drawing). drawing_of copy ≡ in_order_drawing d.version Kept d)
    (λ (copy : Drawing). drawing_of copy ≡ d) (λ copy is. is ∙ kept_same d) c.copied.ensures
