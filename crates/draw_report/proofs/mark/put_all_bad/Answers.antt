use Rattle.draw_report.specs.Mark.{bad_in}
use Rattle.draw_report.proofs.Texts.{nodes_all}
use Rattle.draw_report.proofs.mark.put_all_bad.Goals as goal

pub returns : goal.returns
returns c =
    nodes_all (bad_in c.args.view c.args.place) c.args.marks.now c.loop-mark.mark-index
    c.args.out.now
    c.loop-mark.out c.loop-mark-test.false c.loop-mark.invariant
