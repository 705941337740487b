use Rattle.std.proofs.Common.{◌∙◌, ◌&&◌, sym}
use Rattle.slack_rows.specs.Rows.{are_one_region}
use Rattle.slack_rows.specs.Views.{finding_by_found}
use Rattle.slack_rows.proofs.table.have_one_cause.Goals as goal

pub returns-then-is_same_pin : goal.returns-then-is_same_pin
returns-then-is_same_pin c = λ near near_after.
    (λ i. (sym c.if-is_same_pin.true ∙ c.is_same_pin.ensures c.args.period) i
    && c.have_one_region.ensures near near_after i)

pub returns-else-is_same_pin : goal.returns-else-is_same_pin
returns-else-is_same_pin c = λ near near_after.
    let p = c.args.period in
    c.if-is_same_pin.false
    ∙ (λ i. (sym c.if-is_same_pin.false ∙ c.is_same_pin.ensures p) i
    && are_one_region p (finding_by_found p c.args.before).place
    (finding_by_found p c.args.after).place)
