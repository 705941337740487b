use Rattle.std.proofs.Common.{ap, ◌∙◌}
use Rattle.element_kinds.specs.Kinds.{KindRow}
use Rattle.element_kinds.proofs.kind.Kind.name.Goals as goal

pub returns : goal.returns
returns c = c.name.ensures ∙ ap (λ (r : KindRow). r.name) c.row.ensures
