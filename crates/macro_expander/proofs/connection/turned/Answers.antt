use Rattle.std.proofs.Common.{sym}
use Rattle.std.proofs.lemmas.List.{map-id}
use Rattle.macro_expander.proofs.connection.turned.Goals as goal

pub returns-else-minus : goal.returns-else-minus
returns-else-minus c = rw c.if-minus.false (sym (map-id c.args.bits))
