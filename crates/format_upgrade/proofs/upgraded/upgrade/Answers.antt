use Rattle.std.proofs.Common.{◌≡◌, subst}
use Rattle.std.specs.Prelude.{IfOk}
use Rattle.drawing_tree.specs.Tree.{drawing_of}
use Rattle.drawing_tree.specs.Canonical.{canonical}
use Rattle.format_upgrade.proofs.Kept.{kept_text}
use Rattle.format_upgrade.proofs.upgraded.upgrade.Goals as goal

pub returns-clause-same : goal.returns-clause-same
returns-clause-same c =
    kept_text (drawing_of c.args.drawing.now) c.print_drawing.result
    (subst (λ e. IfOk c.print_drawing.result (λ text. text ≡ canonical e)) c.in_ok-upgraded.ensures c.print_drawing.ensures)
