use Rattle.draw_report.proofs.Replying.{ended_drawn, found_drawn}
use Rattle.draw_report.proofs.reply.draw_case.Goals as goal

pub returns-in-Ok : goal.returns-in-Ok
returns-in-Ok g c =
    let subject = c.args.subject.now in
    found_drawn subject.circuit subject.cases c.args.limit c.args.number c.in-Ok.sought _ _ _
    c.in-Ok.ensures.found c.len.ensures c.reply_of.ensures.outcome c.reply_of.ensures.bytes

pub returns-in_ok-ended-in-Err : goal.returns-in_ok-ended-in-Err
returns-in_ok-ended-in-Err g c =
    let subject = c.args.subject.now in
    ended_drawn subject.circuit subject.cases c.args.limit c.args.number c.in-Err.end
    c.in_ok-ended-in-Err.field-0 _ _ c.in-Err.ensures.ended c.in_ok-ended-in-Err.ensures
    c.as_verified.ensures.outcome c.as_verified.ensures.bytes
