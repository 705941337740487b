use Rattle.std.proofs.Common.{ap, ◌∙◌}
use Rattle.std.specs.List.{list_any}
use Rattle.step_values.specs.Cell.{values}
use Rattle.skew_algebra.specs.Wave.{folded}
use Rattle.drawing_notes.specs.Unclocked.{is_active}
use Rattle.drawing_notes.proofs.unclocked.acts_at.Goals as goal

pub returns : goal.returns
returns g c =
    c.has_active.ensures
    ∙ ap (list_any (is_active c.args.form)) (c.in_ok-fold.ensures.wave ∙ ap (folded values) c.in_ok-shown.ensures)
