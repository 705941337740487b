use Rattle.std.proofs.Common.{ap, ◌∙◌}
use Rattle.element_kinds.specs.Kinds.{check_in}
use Rattle.element_kinds.proofs.Forms.{of_form}
use Rattle.element_kinds.proofs.kind.Kind.check.Goals as goal

pub returns : goal.returns
returns c = c.check_in.ensures ∙ ap check_in c.form.ensures ∙ of_form check_in c.args.self
