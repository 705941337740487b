use Rattle.draw_report.specs.Mark.{flag_in}
use Rattle.draw_report.proofs.Texts.{nodes_all}
use Rattle.draw_report.proofs.mark.put_numbers.Goals as goal

pub returns : goal.returns
returns c =
    nodes_all (flag_in c.args.place) c.args.marks.now c.loop-mark.mark-index c.args.out.now
    c.loop-mark.out c.loop-mark-test.false c.loop-mark.invariant
