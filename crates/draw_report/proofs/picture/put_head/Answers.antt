use Rattle.draw_report.proofs.Whole.{adds_head}
use Rattle.draw_report.proofs.picture.put_head.Goals as goal

pub returns : goal.returns
returns c =
    adds_head c.args.page c.args.frame.width c.args.frame.height c.args.frame.left
    c.args.heading.now c.args.out.now c.put.new.self c.put_looks.new.out c.put-2.new.self
    c.put.ensures c.put_looks.ensures c.put-2.ensures
