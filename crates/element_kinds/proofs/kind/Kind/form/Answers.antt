use Rattle.std.proofs.Common.{ap, ◌∙◌}
use Rattle.element_kinds.specs.Kinds.{KindRow}
use Rattle.element_kinds.proofs.kind.Kind.form.Goals as goal

pub returns : goal.returns
returns c = c.form.ensures ∙ ap (λ (r : KindRow). r.form) c.row.ensures
