use Rattle.std.proofs.Common.{subst, sym}
use Rattle.timing_analysis.specs.Drawn.{IsTextRefused}
use Rattle.program_call.proofs.Ending.{end_unfinished}
use Rattle.program_call.proofs.Replies.{ended_evaluated, refusal_unfinished, refused}
use Rattle.program_call.proofs.Replies.{reported_evaluated, reported_faultless}
use Rattle.program_call.proofs.text_reply.reply_to.Goals as goal

pub returns-in-Err-Refused-clause-is : goal.returns-in-Err-Refused-clause-is
returns-in-Err-Refused-clause-is g c =
    refused (λ d. g.R.Reporter.reports c.args.asked (g.R.Reporter.keeps d)) c.args.rounds
    c.args.text.now _ _
    (subst (IsTextRefused c.args.text.now) (sym c.in-Err-Refused.refusal-is)
    (c.in-Err-Refused.ensures.refused c.in-Err-Refused.refusal c.in-Err-Refused.field-0-is))
    c.refused.ensures.outcome c.refused.ensures.bytes

pub returns-in-Err-Refused-clause-faultless : goal.returns-in-Err-Refused-clause-faultless
returns-in-Err-Refused-clause-faultless g c = refusal_unfinished _ _ _ c.refused.ensures.outcome

pub returns-in-Ok-report_cases-clause-is : goal.returns-in-Ok-report_cases-clause-is
returns-in-Ok-report_cases-clause-is g c =
    reported_evaluated g.R.Reporter.keeps (g.R.Reporter.reports c.args.asked) c.args.rounds
    c.args.text.now _ _ c.limit_for-limit.result
    c.in-Ok.ensures.read c.limit_for-limit.ensures.is _ _ c.in-Ok-report_cases.ensures.reported

pub returns-in-Ok-report_cases-clause-faultless : goal.returns-in-Ok-report_cases-clause-faultless
returns-in-Ok-report_cases-clause-faultless g c finished =
    reported_faultless g.R.Reporter.keeps (g.R.Reporter.reports c.args.asked) c.args.rounds
    c.args.text.now _ _ c.limit_for-limit.result
    c.in-Ok.ensures.read c.limit_for-limit.ensures.is _ _ c.in-Ok-report_cases.ensures.reported

pub returns-in-Ok-clause-is : goal.returns-in-Ok-clause-is
returns-in-Ok-clause-is g c =
    ended_evaluated g.R.Reporter.keeps (g.R.Reporter.reports c.args.asked) c.args.rounds
    c.args.text.now _ _ c.limit_for-limit.result
    c.in-Ok.ensures.read c.limit_for-limit.ensures.is c.in-Err.end _ c.in-Err.ensures.ended
    c.ended.ensures

pub returns-in-Ok-clause-faultless : goal.returns-in-Ok-clause-faultless
returns-in-Ok-clause-faultless g c = end_unfinished _ _ c.in-Err.end _ c.ended.ensures
