use Rattle.std.proofs.Common.{◌∙◌, ◌&&◌, sym}
use Rattle.slack_rows.specs.Rows.{are_one_region, have_no_number, is_same_pin}
use Rattle.slack_rows.specs.Slack.{is_broken}
use Rattle.slack_rows.specs.Views.{finding_by_found}
use Rattle.slack_rows.proofs.Merged.{chain_off, chain_on}
use Rattle.slack_rows.proofs.table.are_reported_once.Goals as goal

pub returns-then-not-are_broken-clause-finding : goal.returns-then-not-are_broken-clause-finding
returns-then-not-are_broken-clause-finding c = λ near near_after.
    let p = c.args.period in
    let a = finding_by_found p c.args.before in
    let t = finding_by_found p c.args.after in
    chain_off (have_no_number a.slack t.slack) (is_broken a.slack) (is_broken t.slack)
    (c.args.is_one_case && (is_same_pin a t && are_one_region p a.place t.place)) c.are_broken.result
    (sym c.have_no_number.ensures ∙ c.if-have_no_number.false) c.are_broken.ensures c.if-not-are_broken.true

pub returns-then-is_one_case-clause-finding : goal.returns-then-is_one_case-clause-finding
returns-then-is_one_case-clause-finding c = λ near near_after.
    let p = c.args.period in
    let a = finding_by_found p c.args.before in
    let t = finding_by_found p c.args.after in
    chain_on (have_no_number a.slack t.slack) (is_broken a.slack) (is_broken t.slack)
    (c.args.is_one_case && (is_same_pin a t && are_one_region p a.place t.place)) c.are_broken.result c.have_one_cause.result
    (sym c.have_no_number.ensures ∙ c.if-have_no_number.false) c.are_broken.ensures c.if-not-are_broken.false
    (λ i. (sym c.if-is_one_case.true) i && c.have_one_cause.ensures near near_after i)

pub returns-else-is_one_case-clause-finding : goal.returns-else-is_one_case-clause-finding
returns-else-is_one_case-clause-finding c = λ near near_after.
    let p = c.args.period in
    let a = finding_by_found p c.args.before in
    let t = finding_by_found p c.args.after in
    chain_on (have_no_number a.slack t.slack) (is_broken a.slack) (is_broken t.slack)
    (c.args.is_one_case && (is_same_pin a t && are_one_region p a.place t.place)) c.are_broken.result c.args.is_one_case
    (sym c.have_no_number.ensures ∙ c.if-have_no_number.false) c.are_broken.ensures c.if-not-are_broken.false
    (c.if-is_one_case.false ∙ (λ i. (sym c.if-is_one_case.false) i && (is_same_pin a t && are_one_region p a.place t.place)))
