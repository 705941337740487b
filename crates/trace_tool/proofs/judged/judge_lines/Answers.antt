use Rattle.std.proofs.Common.{rules, subst}
use Rattle.trace_tool.specs.Scan.{lines_of}
use Rattle.trace_tool.specs.Taking.{IsFault}
use Rattle.trace_tool.proofs.Judging.{judged_reply, wrong_reply}
use Rattle.trace_tool.proofs.judged.judge_lines.Goals as goal

pub returns-in-Ok : goal.returns-in-Ok
returns-in-Ok c =
    judged_reply c.args.c.now (lines_of c.args.lines.now) c.args.trial c.in-Ok.trace c.judge_trace.result c.in-Ok.ensures c.judge_trace.ensures

pub returns-in-Err-WrongLine : goal.returns-in-Err-WrongLine
returns-in-Err-WrongLine c =
    let lines = lines_of c.args.lines.now in
    wrong_reply c.args.c.now lines c.args.trial c.in-Err-WrongLine.i c.silent.result.outcome c.silent.result.bytes
    (subst (IsFault c.args.trial.extent c.args.c.now lines) c.in-Err-WrongLine.field-0-is c.in-Err-WrongLine.ensures)
    (search rules) c.silent.ensures.bytes
