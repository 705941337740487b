use Rattle.std.proofs.lemmas.Result.{err_from_is_err_and}
use Rattle.draw_report.proofs.Collecting.{told_listed}
use Rattle.draw_report.proofs.job.draw_listed.Goals as goal

pub returns-in_err-add_cases-clause-ended : goal.returns-in_err-add_cases-clause-ended
returns-in_err-add_cases-clause-ended g c =
    let p = err_from_is_err_and c.from_residual.result c.from_residual.ensures.1 in
    rw (p.1, p.2) c.in_err-add_cases.ensures.ended

pub draw_again-requires-clause-settled : goal.draw_again-requires-clause-settled
draw_again-requires-clause-settled g c = c.in_ok-add_cases.ensures.kept

pub returns-in_err-drawn-clause-ended : goal.returns-in_err-drawn-clause-ended
returns-in_err-drawn-clause-ended g c =
    let p = err_from_is_err_and c.from_residual-in_err-drawn.result
    c.from_residual-in_err-drawn.ensures.1 in
    rw (p.1, p.2) tt

pub returns-clause-told : goal.returns-clause-told
returns-clause-told g c =
    told_listed c.args.limits c.args.job.subject.now.circuit c.args.job.subject.now.cases
    c.args.job.limit c.args.base.now.base.rounds c.add_cases.new.collected c.in_ok-drawn.drawn
    c.requires.some c.requires.settled.settled.settled.settles
    c.in_ok-add_cases.ensures.collected c.in_ok-drawn.ensures
