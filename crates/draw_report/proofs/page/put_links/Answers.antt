use Rattle.std.proofs.Common.{◌≡◌, ◌+◌, get_or, arith, ap, sym, ◌∙◌}
use Rattle.draw_report.specs.Page.{link_text}
use Rattle.draw_report.proofs.Pages.{adds_numbered}
use Rattle.draw_report.proofs.page.put_links.Goals as goal

pub loop-row-preserved : goal.loop-row-preserved
loop-row-preserved c =
    let next : c.saturating_add-number.result ≡ c.loop-row.row-index + 1 = omega arith in
    record {
      number = next;
      text = adds_numbered link_text c.args.rows.now c.loop-row.row-index
          c.saturating_add-number.result c.as_slice.result.now c.args.out.now c.loop-row.out
          c.put_link.new.out c.loop-row-test.true (c.as_slice.ensures ∙ c.row-item.is
          ∙ ap (get_or c.args.rows.now c.loop-row.row-index) (sym c.as_slice.ensures))
          next c.loop-row.invariant.text c.put_link.ensures;
    }
