use Rattle.std.proofs.Common.{◌≡◌, ◌+◌, get_or, arith, ap, sym, ◌∙◌}
use Rattle.draw_report.specs.Page.{section_text}
use Rattle.draw_report.proofs.Pages.{adds_numbered}
use Rattle.draw_report.proofs.page.put_sections.Goals as goal

pub loop-picture-preserved : goal.loop-picture-preserved
loop-picture-preserved c =
    let next : c.saturating_add-number.result ≡ c.loop-picture.picture-index + 1 = omega arith in
    record {
      number = next;
      text = adds_numbered (section_text c.args.letter.now) c.args.pictures.now c.loop-picture.picture-index
          c.saturating_add-number.result c.as_slice.result.now c.args.out.now c.loop-picture.out
          c.put_section.new.out c.loop-picture-test.true (c.as_slice.ensures ∙ c.picture-item.is
          ∙ ap (get_or c.args.pictures.now c.loop-picture.picture-index) (sym c.as_slice.ensures))
          next c.loop-picture.invariant.text c.put_section.ensures;
    }
