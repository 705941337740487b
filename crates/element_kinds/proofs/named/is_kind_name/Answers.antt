use Rattle.std.proofs.Common.{is_some, ap, ◌∙◌}
use Rattle.element_kinds.proofs.Names.{some_kind_is_named}
use Rattle.element_kinds.proofs.named.is_kind_name.Goals as goal

pub returns : goal.returns
returns c = c.is_some.ensures ∙ ap is_some c.kind_named.ensures ∙ some_kind_is_named c.args.name.now
