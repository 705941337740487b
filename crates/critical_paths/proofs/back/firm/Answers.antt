use Rattle.critical_paths.specs.Views.{arc_with_word}
use Rattle.critical_paths.proofs.Cutting.{or_found}
use Rattle.critical_paths.proofs.back.firm.Goals as goal

pub returns : goal.returns
returns c =
    or_found arc_with_word c.or-making.result c.or-bounding.result _ _ _ c.or.ensures
    (or_found arc_with_word c.tight.result c.tight-2.result _ _ _ c.or-making.ensures
    c.tight.ensures c.tight-2.ensures)
    (or_found arc_with_word c.bounded.result c.bounded-2.result _ _ _ c.or-bounding.ensures
    c.bounded.ensures c.bounded-2.ensures)
