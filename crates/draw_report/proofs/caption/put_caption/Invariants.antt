use Rattle.std.proofs.Common.{◌≡◌, ◌+◌, ◌*◌, take}
use Rattle.draw_report.specs.Paper.{Adds}
use Rattle.draw_report.specs.Element.{all_written}
use Rattle.draw_report.specs.Caption.{caption_nodes}
use Rattle.draw_report.proofs.caption.put_caption.Given as goal

abbrev pub invariant-loop-line : goal.invariant-loop-line
invariant-loop-line l = record {
  height : l.y ≡ l.top + 165 * l.line-index;
  text : Adds l.fn.out l.out (all_written (caption_nodes l.top (take l.line-index l.lines)));
}
