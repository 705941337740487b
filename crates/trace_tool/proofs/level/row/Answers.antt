use Rattle.std.proofs.Common.{◌∙◌, ap, []}
use Rattle.std.specs.Prelude.{unwrap_or}
use Rattle.std.proofs.lemmas.Option.{unwrap_or-slice_get}
use Rattle.trace_tool.proofs.level.row.Goals as goal

pub returns-in-None : goal.returns-in-None
returns-in-None c = ap (λ o. unwrap_or o []) c.in-None.ensures ∙ unwrap_or-slice_get c.args.rows.now c.args.net []

pub returns-in-Some : goal.returns-in-Some
returns-in-Some c =
    c.as_slice.ensures ∙ ap (λ o. unwrap_or o []) c.in-Some.ensures ∙ unwrap_or-slice_get c.args.rows.now c.args.net []
