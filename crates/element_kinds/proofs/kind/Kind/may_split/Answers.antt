use Rattle.std.proofs.Common.{ap, ◌∙◌}
use Rattle.element_kinds.specs.Kinds.{is_function}
use Rattle.element_kinds.proofs.Forms.{of_form}
use Rattle.element_kinds.proofs.kind.Kind.may_split.Goals as goal

pub returns : goal.returns
returns c = c.is_function.ensures ∙ ap is_function c.form.ensures ∙ of_form is_function c.args.self
