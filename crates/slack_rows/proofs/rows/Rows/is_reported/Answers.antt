use Rattle.std.proofs.Common.{◌≡◌, ◌∙◌, ℕ, sym, subst, Option}
use Rattle.slack_rows.specs.declared.rows.Least.{Least}
use Rattle.slack_rows.specs.Known.{in_one_case, least_at, finding_least}
use Rattle.slack_rows.specs.Rows.{reported_once}
use Rattle.slack_rows.specs.Slack.{Finding}
use Rattle.slack_rows.specs.Views.{Tells}
use Rattle.slack_rows.proofs.Once.{not_second, finding_at}
use Rattle.slack_rows.proofs.rows.Rows.is_reported.Goals as goal

pub returns-then-is_second-clause-finding : goal.returns-then-is_second-clause-finding
returns-then-is_second-clause-finding c = λ circuit cases q known same at sure.
    let rows = c.args.self.now in
    let place = c.args.place in
    finding_at circuit cases rows.parameters rows.least rows.cases rows.sets.keys known place q
    c.is_reported_with.result at sure (sym (c.is_second.ensures q at) ∙ c.if-is_second.true)
    (subst (λ (p : ℕ). (a t : Finding) → Tells p (finding_least (least_at rows.least place 1)) a →
    Tells p (finding_least (least_at rows.least place 0)) t → c.is_reported_with.result
    ≡ reported_once p (in_one_case (least_at rows.least place 1) (least_at rows.least place 0)) a t)
    same
    (λ a t first own.
    c.is_reported_with.ensures.finding a t
    (subst (λ (o : Option Least). Tells rows.period (finding_least o) a) (sym c.least_before.ensures)
    first)
    (subst (λ (o : Option Least). Tells rows.period (finding_least o) t)
    (sym c.least_before-then-is_second.ensures) own)
    ∙ (λ i. reported_once rows.period (in_one_case (c.least_before.ensures i)
    (c.least_before-then-is_second.ensures i)) a t)))

pub returns-else-is_second-clause-finding : goal.returns-else-is_second-clause-finding
returns-else-is_second-clause-finding c = λ circuit cases q known same at sure.
    not_second circuit cases c.args.self.now.parameters c.args.self.now.least c.args.self.now.cases
    c.args.self.now.sets.keys known q (sym (c.is_second.ensures q at) ∙ c.if-is_second.false)
