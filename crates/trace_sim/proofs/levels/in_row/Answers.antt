use Rattle.std.proofs.Common.{◌∙◌, Bool, false, Option, ap}
use Rattle.std.specs.Option.{unwrap_or}
use Rattle.std.proofs.lemmas.Option.{unwrap_or-slice_get}
use Rattle.trace_sim.proofs.levels.in_row.Goals as goal

pub returns-in-None : goal.returns-in-None
returns-in-None c = ap (λ (o : Option Bool). unwrap_or o false) c.in-None.ensures ∙ unwrap_or-slice_get c.args.row.now c.args.t false

pub returns-in-Some : goal.returns-in-Some
returns-in-Some c = ap (λ (o : Option Bool). unwrap_or o false) c.in-Some.ensures ∙ unwrap_or-slice_get c.args.row.now c.args.t false
