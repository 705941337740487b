use Rattle.std.proofs.Common.{List, ℕ, subst, sym}
use Rattle.timing_analysis.specs.Drawn.{IsTextRefused}
use Rattle.trace_tool.specs.Ran.{RanOn}
use Rattle.trace_tool.proofs.Made.{Gives}
use Rattle.trace_tool.proofs.Replying.{circuit_reply, refused_reply}
use Rattle.trace_tool.proofs.drawn.run.Goals as goal

pub returns-in-Ok : goal.returns-in-Ok
returns-in-Ok c =
    circuit_reply c.args.asked c.args.text.now c.in-Ok.named.name c.run_on.result _ _ c.in-Ok.ensures.drawn
    (subst (λ (name : List ℕ). Gives c.run_on.result (RanOn c.args.asked name c.in-Ok.named.drawn.circuit c.in-Ok.named.drawn.cases))
    c.as_slice.ensures c.run_on.ensures)

pub returns-in-Err-Refused : goal.returns-in-Err-Refused
returns-in-Err-Refused c =
    refused_reply c.args.asked c.args.text.now c.refused.result _
    (subst (IsTextRefused c.args.text.now) (sym c.in-Err-Refused.refusal-is)
    (c.in-Err-Refused.ensures.refused c.in-Err-Refused.refusal c.in-Err-Refused.field-0-is))
    c.refused.ensures.outcome c.refused.ensures.bytes
