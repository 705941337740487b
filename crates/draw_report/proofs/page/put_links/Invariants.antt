use Rattle.std.proofs.Common.{◌≡◌, take}
use Rattle.draw_report.specs.Page.{link_text, numbered}
use Rattle.draw_report.specs.Paper.{Adds}
use Rattle.draw_report.proofs.page.put_links.Given as goal

abbrev pub invariant-loop-row : goal.invariant-loop-row
invariant-loop-row l = record {
  number : l.number ≡ l.row-index;
  text : Adds l.fn.out l.out (numbered link_text 1 (take l.row-index l.rows));
}
