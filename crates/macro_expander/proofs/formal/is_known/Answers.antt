use Rattle.std.proofs.Common.{◌∙◌}
use Rattle.macro_expander.proofs.Parameters.{found_given}
use Rattle.macro_expander.proofs.formal.is_known.Goals as goal

pub returns : goal.returns
returns c = c.is_some.ensures ∙ found_given c.args.name.now c.args.definition.now.params c.named.result (rw c.as_slice.ensures at c.named.ensures)
