use Rattle.std.proofs.Common.{get_or, ap, sym, ◌∙◌}
use Rattle.draw_report.proofs.Strips.{adds_row, adds_rows}
use Rattle.draw_report.proofs.strip.put_rows.Goals as goal

pub loop-place-preserved : goal.loop-place-preserved
loop-place-preserved g c =
    let labels = c.args.sketch.now.labels.now in
    adds_row c.args.sketch.now.view c.args.layout c.args.sketch.now.marks.now labels
    c.args.waves.now c.loop-place.place c.as_slice-label.result.now c.index-waves-place.result
    c.args.out.now c.loop-place.out c.put_row.new.out c.requires.labels c.loop-place-test.true
    (c.as_slice-label.ensures ∙ ap (get_or labels c.loop-place.place)
    (c.index-sketch-place.is ∙ sym c.as_slice-label.ensures))
    c.index-waves-place.is c.loop-place.invariant c.put_row.ensures

pub returns : goal.returns
returns g c =
    adds_rows c.args.sketch.now.view c.args.layout c.args.sketch.now.marks.now
    c.args.sketch.now.labels.now c.args.waves.now c.loop-place.place c.args.out.now
    c.loop-place.out c.requires.labels c.loop-place-test.false c.loop-place.invariant
