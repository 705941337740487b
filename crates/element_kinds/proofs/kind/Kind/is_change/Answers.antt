use Rattle.std.proofs.Common.{ap, ◌∙◌}
use Rattle.element_kinds.specs.Kinds.{may_vary}
use Rattle.element_kinds.proofs.Forms.{of_form}
use Rattle.element_kinds.proofs.kind.Kind.is_change.Goals as goal

pub returns : goal.returns
returns c = c.may_vary.ensures ∙ ap may_vary c.form.ensures ∙ of_form may_vary c.args.self
