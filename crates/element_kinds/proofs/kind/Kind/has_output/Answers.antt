use Rattle.std.proofs.Common.{ap, ◌∙◌}
use Rattle.element_kinds.specs.Kinds.{makes_output}
use Rattle.element_kinds.proofs.Forms.{of_form}
use Rattle.element_kinds.proofs.kind.Kind.has_output.Goals as goal

pub returns : goal.returns
returns c = c.makes_output.ensures ∙ ap makes_output c.form.ensures ∙ of_form makes_output c.args.self
