use Rattle.draw_report.proofs.Pages.{adds_front}
use Rattle.draw_report.proofs.page.put_front.Goals as goal

pub returns : goal.returns
returns c =
    let page = c.args.page.now in
    adds_front page.title.now page.above.now page.rows.now page.below.now c.args.out.now
    c.put.new.self c.put_lines.new.out c.put.ensures c.put_lines.ensures
