use Rattle.std.proofs.Common.{subst, sym}
use Rattle.std.specs.Option.{option_copied}
use Rattle.std.proofs.lemmas.Result.{IfOk-weaker}
use Rattle.timing_analysis.specs.Drawn.{IsTextRefused}
use Rattle.draw_report.specs.Answer.{drawn}
use Rattle.draw_report.specs.Words.{asking}
use Rattle.draw_report.proofs.Replying.{refused_drawn}
use Rattle.draw_report.proofs.reply.draw.Goals as goal

pub returns-in-Ok : goal.returns-in-Ok
returns-in-Ok g c =
    IfOk-weaker c.draw_drawn.result _ _
    (λ reply is. drawn c.in-Ok.drawn.circuit c.in-Ok.drawn.cases reply.outcome reply.bytes
    c.in-Ok.ensures.drawn is)
    c.draw_drawn.ensures

pub returns-in_ok-refused-in-Err-Refused : goal.returns-in_ok-refused-in-Err-Refused
returns-in_ok-refused-in-Err-Refused g c =
    refused_drawn (asking (option_copied c.args.under) c.args.request) c.args.text.now _
    c.in_ok-refused-in-Err-Refused.field-0 _ _
    (subst (IsTextRefused c.args.text.now) (sym c.in-Err-Refused.refusal-is)
    (c.in-Err-Refused.ensures.refused c.in-Err-Refused.refusal c.in-Err-Refused.field-0-is))
    c.in_ok-refused-in-Err-Refused.ensures.outcome c.in_ok-refused-in-Err-Refused.ensures.bytes
    c.as_verified.ensures.outcome c.as_verified.ensures.bytes
