use Rattle.std.proofs.Common.{◌∙◌, sym, arith}
use Rattle.std.proofs.lemmas.Bool.Decides.{nat_tests}
use Rattle.timing_analysis.proofs.Ends.{base_early}
use Rattle.program_call.proofs.Reporting.{none_long}
use Rattle.draw_report.proofs.job.draw_collecting.Goals as goal

pub returns-in-Err-clause-ended : goal.returns-in-Err-clause-ended
returns-in-Err-clause-ended g c =
    base_early c.args.job.subject.now.circuit c.args.job.subject.now.cases c.args.job.limit
    c.in-Err.end c.in-Err.ensures.unsettled

pub draw_listed-requires-clause-some : goal.draw_listed-requires-clause-some
draw_listed-requires-clause-some g c =
    let is = c.is_empty.ensures in
    let some = c.if-not-is_empty.true in
    grind (arith, nat_tests)

pub draw_unlisted-requires-clause-unlisted : goal.draw_unlisted-requires-clause-unlisted
draw_unlisted-requires-clause-unlisted g c =
    none_long c.args.job.subject.now.cases (sym c.is_empty.ensures ∙ c.if-not-is_empty.false)
