use Rattle.std.proofs.Common.{is_some, ap, ◌∙◌}
use Rattle.element_kinds.proofs.kind.Kind.may_be_marked.Goals as goal

pub returns : goal.returns
returns c = c.is_some.ensures ∙ ap is_some c.closes.ensures
