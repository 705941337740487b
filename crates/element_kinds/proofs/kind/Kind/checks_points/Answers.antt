use Rattle.std.proofs.Common.{ap, ◌∙◌}
use Rattle.element_kinds.specs.Kinds.{is_of_points}
use Rattle.element_kinds.proofs.Forms.{of_form}
use Rattle.element_kinds.proofs.kind.Kind.checks_points.Goals as goal

pub returns : goal.returns
returns c = c.is_of_points.ensures ∙ ap is_of_points c.form.ensures ∙ of_form is_of_points c.args.self
