use Rattle.std.proofs.Common.{ap, ◌∙◌}
use Rattle.element_kinds.specs.Kinds.{listens_in}
use Rattle.element_kinds.proofs.Forms.{of_form}
use Rattle.element_kinds.proofs.kind.Kind.listens.Goals as goal

pub returns : goal.returns
returns c = c.listens_in.ensures ∙ ap (λ form. listens_in form c.args.place) c.form.ensures ∙ of_form (λ form. listens_in form c.args.place) c.args.self
