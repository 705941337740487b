use Rattle.std.proofs.Common.{true, false, ap, sym, ◌∙◌, arith}
use Rattle.std.specs.List.{count_by}
use Rattle.std.proofs.lemmas.List.{take_all}
use Rattle.slack_rows.proofs.Stepwise.{item_at}
use Rattle.slack_rows.proofs.Totals.{sure_at}
use Rattle.slack_report.specs.Answer.{has_row}
use Rattle.slack_report.proofs.Rowed.{own_counted, row_more}
use Rattle.slack_report.proofs.counts.row_count.Goals as goal
use Rattle.slack_report.proofs.counts.row_count.Goals.{then-has_row, else-has_row}

pub loop-place-preserved : goal.loop-place-preserved
loop-place-preserved c =
    let limits = c.args.rows.now.parameters in
    let place = c.loop-place.place in
    let count = c.loop-place.count in
    let few = c.loop-place.invariant.few in
    let long = c.len-place-end.ensures in
    let less = c.loop-place-test.true in
    let found = item_at limits place (omega (arith, long, less)) in
    elim c.if-has_row.branch [
      | then-has_row w ↦
          let is = w.count-is in
          record {
            few = omega (arith, few, is);
            have = λ circuit cases are sure. row_more circuit cases limits place count _ true found.0
                found.1
                (sym w.if-has_row.true ∙ c.has_row.ensures circuit cases found.0 are found.1
                (sure_at circuit cases limits are.known.are_limits sure place found.0 found.1))
                (c.loop-place.invariant.have circuit cases are sure) w.count-is;
          }
      | else-has_row w ↦
          let is = w.count-is in
          record {
            few = omega (arith, few, is);
            have = λ circuit cases are sure. row_more circuit cases limits place count _ false found.0
                found.1
                (sym w.if-has_row.false ∙ c.has_row.ensures circuit cases found.0 are found.1
                (sure_at circuit cases limits are.known.are_limits sure place found.0 found.1))
                (c.loop-place.invariant.have circuit cases are sure) (omega (arith, is));
          }
    ]

pub returns : goal.returns
returns c = λ circuit cases are sure.
    let long = c.len-place-end.ensures in
    let past = c.loop-place-test.false in
    c.loop-place.invariant.have circuit cases are sure
    ∙ ap (count_by (has_row circuit cases))
    (take_all c.loop-place.place c.args.rows.now.parameters (omega (arith, long, past)))
    ∙ own_counted circuit cases c.args.rows.now.parameters are.known.are_limits
