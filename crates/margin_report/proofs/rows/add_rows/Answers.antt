use Rattle.std.proofs.Common.{◌∙◌, ap}
use Rattle.scald_base.specs.Time.{period}
use Rattle.margin_report.specs.Margin.{parameters_in}
use Rattle.margin_report.proofs.RowByRow.{row_more}
use Rattle.margin_report.proofs.rows.add_rows.Goals as goal

pub loop-parameter-preserved : goal.loop-parameter-preserved
loop-parameter-preserved c =
    let j = c.args.instance.now in
    row_more c.args.c.now c.args.number j c.parameters-parameter-items.result.now c.loop-parameter.parameter-index _ c.args.rows.now
    c.loop-parameter.rows c.push.new.self c.period-period.result c.spare.result (c.parameters-parameter-items.ensures ∙ ap parameters_in c.check.ensures)
    c.loop-parameter-test.true c.requires.there c.requires.fits.lim c.loop-parameter.invariant.0 c.loop-parameter.invariant.1
    (c.period-period.ensures.is ∙ ap period c.header.ensures) c.spare.ensures c.in_ok-push.ensures.ok
