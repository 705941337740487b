use Rattle.std.proofs.Common.{arith, subst, sym}
use Rattle.timing_analysis.specs.Drawn.{IsTextRefused}
use Rattle.fault_decider.proofs.Replying.{end_unsettled, ended_decided, refusal_unsettled, refused_decided, replied_decided, settled_later}
use Rattle.fault_decider.proofs.text.decide_text.Goals as goal

pub report-requires-clause-is : goal.report-requires-clause-is
report-requires-clause-is c = c.in-Ok.ensures.read.is

pub report-requires-clause-few : goal.report-requires-clause-few
report-requires-clause-few c = let bounded = c.default_limit-limit.ensures.bounded in omega (arith, bounded)

pub returns-in-Err-Refused-clause-is : goal.returns-in-Err-Refused-clause-is
returns-in-Err-Refused-clause-is c =
    refused_decided c.args.request c.args.text.now _ _
    (subst (IsTextRefused c.args.text.now) (sym c.in-Err-Refused.refusal-is)
    (c.in-Err-Refused.ensures.refused c.in-Err-Refused.refusal c.in-Err-Refused.field-0-is))
    c.refused.ensures.outcome c.refused.ensures.bytes

pub returns-in-Err-Refused-clause-settled : goal.returns-in-Err-Refused-clause-settled
returns-in-Err-Refused-clause-settled c = refusal_unsettled _ _ _ c.refused.ensures.outcome

pub returns-in-Ok-report-clause-is : goal.returns-in-Ok-report-clause-is
returns-in-Ok-report-clause-is c =
    replied_decided c.args.request c.args.text.now _ _ c.default_limit-limit.result
    c.in-Ok.ensures.read c.default_limit-limit.ensures.is _ _ c.in-Ok-report.ensures.replied

pub returns-in-Ok-report-clause-settled : goal.returns-in-Ok-report-clause-settled
returns-in-Ok-report-clause-settled c =
    settled_later c.args.request c.args.text.now _ _ c.default_limit-limit.result
    c.in-Ok.ensures.read c.default_limit-limit.ensures.is _ _ c.in-Ok-report.ensures.replied

pub returns-in-Ok-clause-is : goal.returns-in-Ok-clause-is
returns-in-Ok-clause-is c =
    ended_decided c.args.request c.args.text.now _ _ c.default_limit-limit.result
    c.in-Ok.ensures.read c.default_limit-limit.ensures.is c.in-Err.end _ c.in-Err.ensures.ended
    c.ended.ensures

pub returns-in-Ok-clause-settled : goal.returns-in-Ok-clause-settled
returns-in-Ok-clause-settled c =
    end_unsettled c.args.request c.args.text.now _ _ c.default_limit-limit.result
    c.in-Ok.ensures.read c.default_limit-limit.ensures.is c.in-Err.end _ c.ended.ensures
