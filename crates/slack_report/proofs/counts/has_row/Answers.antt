use Rattle.std.proofs.Common.{◌∙◌, ◌&&◌, not, Bool, ap, sym, arith}
use Rattle.slack_report.proofs.Rowed.{lost, row_is}
use Rattle.slack_report.proofs.counts.has_row.Goals as goal

pub returns : goal.returns
returns c = λ circuit cases q are at sure.
    c.has_own.ensures
    ∙ ap (λ (b : Bool). b && not c.is_reported.result) c.can_break.ensures
    ∙ row_is circuit cases c.args.rows.now c.args.place q c.in-Some.least.now c.is_reported.result are at
    (sym c.in-Some.ensures) (c.is_reported.ensures.finding circuit cases q are.known are.same_period at sure)

pub returns-in_default : goal.returns-in_default
returns-in_default c = λ circuit cases q are at sure.
    absurd (lost c.args.rows.now.least c.args.place (sym c.in_default.ensures)
    (let within = c.requires in let count = are.known.count in omega (arith, within, count)))
