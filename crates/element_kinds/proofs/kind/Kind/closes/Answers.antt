use Rattle.std.proofs.Common.{ap, ◌∙◌}
use Rattle.element_kinds.specs.Kinds.{KindRow}
use Rattle.element_kinds.proofs.kind.Kind.closes.Goals as goal

pub returns : goal.returns
returns c = c.closes.ensures ∙ ap (λ (r : KindRow). r.closes) c.row.ensures
