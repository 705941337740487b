use Rattle.draw_report.specs.Mark.{mark_nodes}
use Rattle.draw_report.proofs.Texts.{nodes_all}
use Rattle.draw_report.proofs.over.put_marks.Goals as goal

pub returns : goal.returns
returns c =
    nodes_all (mark_nodes c.args.view c.args.layout c.args.texts.now) c.args.marks.now
    c.loop-mark.mark-index c.args.out.now
    c.loop-mark.out c.loop-mark-test.false c.loop-mark.invariant
