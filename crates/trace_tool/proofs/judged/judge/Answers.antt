use Rattle.std.proofs.Common.{subst, sym}
use Rattle.timing_analysis.specs.Drawn.{IsTextRefused}
use Rattle.trace_tool.specs.Scan.{lines_of}
use Rattle.trace_tool.proofs.Judging.{no_end_reply, on_circuit_reply, unread_reply}
use Rattle.trace_tool.proofs.judged.judge.Goals as goal

pub returns-in_default : goal.returns-in_default
returns-in_default c =
    no_end_reply c.args.trial c.args.text.now c.silent.result.outcome c.silent.result.bytes c.in_default.ensures c.silent.ensures.outcome
    c.silent.ensures.bytes

pub returns-in-Ok : goal.returns-in-Ok
returns-in-Ok c =
    let drawn = c.in-Ok.drawn in
    on_circuit_reply c.args.trial c.args.text.now (lines_of c.in-Some.lines.now) c.in-Some.drawing.now drawn.circuit drawn.cases c.judge_lines.result
    c.in-Some.ensures c.in-Ok.ensures.drawn c.judge_lines.ensures

pub returns-in-Err-Refused : goal.returns-in-Err-Refused
returns-in-Err-Refused c =
    unread_reply c.args.trial c.args.text.now (lines_of c.in-Some.lines.now) c.in-Some.drawing.now _ c.refused.result c.in-Some.ensures
    (subst (IsTextRefused c.in-Some.drawing.now) (sym c.in-Err-Refused.refusal-is)
    (c.in-Err-Refused.ensures.refused c.in-Err-Refused.refusal c.in-Err-Refused.field-0-is))
    c.refused.ensures.outcome c.refused.ensures.bytes
