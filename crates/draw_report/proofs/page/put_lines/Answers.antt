use Rattle.std.proofs.Common.{sym, ◌∙◌}
use Rattle.draw_report.proofs.Pages.{adds_lines}
use Rattle.draw_report.proofs.page.put_lines.Goals as goal

pub returns : goal.returns
returns c =
    adds_lines c.args.above.now c.args.rows.now c.args.below.now c.args.out.now c.put.new.self
    c.put_plain.new.out c.put_links.new.out c.put_plain-2.new.out c.put-2.new.self
    (sym c.is_empty.ensures ∙ c.if-is_empty.false) c.put.ensures c.put_plain.ensures
    c.put_links.ensures c.put_plain-2.ensures c.put-2.ensures
