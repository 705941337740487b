use Rattle.std.proofs.Common.{◌≡◌, ◌∙◌, ◌&&◌, sym, not, true, false}
use Rattle.slack_rows.specs.Known.{breaks, least_at}
use Rattle.slack_rows.specs.Rows.{is_reported, row}
use Rattle.slack_rows.proofs.Once.{own_broken}
use Rattle.slack_rows.proofs.rows.Rows.is_own.Goals as goal

pub returns-then-is_broken-clause-is : goal.returns-then-is_broken-clause-is
returns-then-is_broken-clause-is c = λ circuit cases q known same at sure.
    let broken : breaks (least_at c.args.self.now.least c.args.place 0) ≡ true = cc in
    let own = own_broken circuit cases c.args.self.now.parameters c.args.self.now.least c.args.self.now.cases c.args.self.now.sets.keys known
    c.args.place q at sure in
    (λ i. (sym broken ∙ own) i && not (c.is_reported.ensures.finding circuit cases q known same at sure i))

pub returns-else-is_broken-clause-is : goal.returns-else-is_broken-clause-is
returns-else-is_broken-clause-is c = λ circuit cases q known same at sure.
    let broken : breaks (least_at c.args.self.now.least c.args.place 0) ≡ false = cc in
    let own = own_broken circuit cases c.args.self.now.parameters c.args.self.now.least c.args.self.now.cases c.args.self.now.sets.keys known
    c.args.place q at sure in
    c.if-is_broken.false
    ∙ (λ i. (sym broken ∙ own) i && not (is_reported circuit cases (row circuit cases q.subject q.word)))
