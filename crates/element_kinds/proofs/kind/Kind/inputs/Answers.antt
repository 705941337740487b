use Rattle.std.proofs.Common.{ap, ◌∙◌}
use Rattle.element_kinds.specs.Kinds.{KindRow}
use Rattle.element_kinds.proofs.kind.Kind.inputs.Goals as goal

pub returns : goal.returns
returns c = c.inputs.ensures ∙ ap (λ (r : KindRow). r.inputs) c.row.ensures
