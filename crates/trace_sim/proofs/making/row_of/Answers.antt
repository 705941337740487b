use Rattle.std.proofs.Common.{◌≡◌, ◌∙◌, Bool, List, [], Option, ap, get_or}
use Rattle.std.specs.Option.{unwrap_or}
use Rattle.std.proofs.lemmas.Option.{unwrap_or-slice_get}
use Rattle.std.proofs.lemmas.Result.{IfOk-weaker}
use Rattle.trace_sim.proofs.making.row_of.Goals as goal

pub returns-in-None : goal.returns-in-None
returns-in-None c = c.new.ensures ∙ ap (λ (o : Option (List Bool)). unwrap_or o []) c.in-None.ensures ∙ unwrap_or-slice_get c.args.traces.now c.args.n []

pub returns-in-Some : goal.returns-in-Some
returns-in-Some c =
    IfOk-weaker c.copied.result (λ row. row ≡ c.in-Some.row.now) (λ row. row ≡ get_or c.args.traces.now c.args.n [])
    (λ row same. same ∙ ap (λ (o : Option (List Bool)). unwrap_or o []) c.in-Some.ensures ∙ unwrap_or-slice_get c.args.traces.now c.args.n []) c.copied.ensures
