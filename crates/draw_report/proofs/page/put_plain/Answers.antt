use Rattle.draw_report.specs.Page.{line_nodes}
use Rattle.draw_report.proofs.Texts.{nodes_all}
use Rattle.draw_report.proofs.page.put_plain.Goals as goal

pub returns : goal.returns
returns c =
    nodes_all line_nodes c.args.lines.now c.loop-line.line-index c.args.out.now c.loop-line.out
    c.loop-line-test.false c.loop-line.invariant
