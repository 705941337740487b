use Rattle.std.specs.Option.{option_copied}
use Rattle.draw_report.proofs.Replying.{ended_untold, told_drawn}
use Rattle.draw_report.proofs.reply.draw_job.Goals as goal

pub returns-in-Ok : goal.returns-in-Ok
returns-in-Ok g c =
    let subject = c.args.job.subject.now in
    told_drawn subject.circuit subject.cases c.args.job.limit c.args.limits
    (option_copied c.args.job.under) c.in-Ok.told c.in_ok-has_nets.has_nets _ _
    c.in-Ok.ensures.told c.in_ok-has_nets.ensures c.reply_of_limits.ensures.outcome
    c.reply_of_limits.ensures.bytes

pub returns-in_ok-ended-in-Err : goal.returns-in_ok-ended-in-Err
returns-in_ok-ended-in-Err g c =
    let subject = c.args.job.subject.now in
    ended_untold subject.circuit subject.cases c.args.job.limit c.args.limits
    (option_copied c.args.job.under) c.in-Err.end
    c.in_ok-ended-in-Err.field-0 _ _ c.in-Err.ensures.ended c.in_ok-ended-in-Err.ensures
    c.as_verified.ensures.outcome c.as_verified.ensures.bytes
