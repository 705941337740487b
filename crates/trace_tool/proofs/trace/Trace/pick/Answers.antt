use Rattle.std.proofs.Common.{◌∙◌, ap}
use Rattle.std.specs.Prelude.{unwrap_or}
use Rattle.std.proofs.lemmas.Option.{unwrap_or-slice_get}
use Rattle.trace_tool.proofs.trace.Trace.pick.Goals as goal

pub returns-in-None : goal.returns-in-None
returns-in-None c =
    ap (λ o. unwrap_or o (0, 0)) c.in-None.ensures ∙ unwrap_or-slice_get c.args.self.now.delays c.args.k (0, 0)

pub returns-in-Some : goal.returns-in-Some
returns-in-Some c =
    ap (λ o. unwrap_or o (0, 0)) c.in-Some.ensures ∙ unwrap_or-slice_get c.args.self.now.delays c.args.k (0, 0)
