use Rattle.std.proofs.Common.{◌∙◌, ap, []}
use Rattle.std.specs.Prelude.{unwrap_or}
use Rattle.std.proofs.lemmas.Option.{unwrap_or-slice_get}
use Rattle.trace_tool.proofs.trace.Trace.row.Goals as goal

pub returns-in-None : goal.returns-in-None
returns-in-None c =
    ap (λ o. unwrap_or o []) c.in-None.ensures ∙ unwrap_or-slice_get c.args.self.now.bits c.args.net []

pub returns-in-Some : goal.returns-in-Some
returns-in-Some c =
    c.as_slice.ensures ∙ ap (λ o. unwrap_or o []) c.in-Some.ensures ∙ unwrap_or-slice_get c.args.self.now.bits c.args.net []
