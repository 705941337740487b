use Rattle.std.proofs.Common.{◌≡◌, take}
use Rattle.draw_report.specs.Page.{sections_text}
use Rattle.draw_report.specs.Paper.{Adds}
use Rattle.draw_report.proofs.page.put_sections.Given as goal

abbrev pub invariant-loop-picture : goal.invariant-loop-picture
invariant-loop-picture l = record {
  number : l.number ≡ l.picture-index;
  text : Adds l.fn.out l.out (sections_text l.letter 1 (take l.picture-index l.pictures));
}
