use Rattle.std.specs.Prelude.{codes}
use Rattle.draw_report.specs.Page.{back_text, front_text, page_text, sections_text}
use Rattle.draw_report.proofs.Texts.{adds_four, done_all}
use Rattle.draw_report.proofs.page.page_of.Goals as goal

pub returns : goal.returns
returns c =
    let page = c.args.page.now in
    done_all c.done.result c.new-out.result c.put.new.self
    (page_text page.title.now page.above.now page.rows.now page.below.now page.limits.now
    page.cases.now) c.new-out.ensures.bytes
    (adds_four c.new-out.result c.put_front.new.out c.put_sections.new.out c.put_sections-2.new.out
    c.put.new.self (front_text page.title.now page.above.now page.rows.now page.below.now)
    (sections_text (codes "f") 1 page.limits.now) (sections_text (codes "k") 1 page.cases.now)
    back_text c.put_front.ensures c.put_sections.ensures c.put_sections-2.ensures c.put.ensures)
    c.done.ensures.failed c.done.ensures.bytes
