use Rattle.std.proofs.Common.{◌≤◌, ◌-◌}
use Rattle.std.specs.List.{flat_map, range_with_len}
use Rattle.draw_report.specs.Paper.{Adds}
use Rattle.draw_report.specs.Element.{words_text}
use Rattle.draw_report.specs.Grid.{ruled_words}
use Rattle.draw_report.proofs.grid.put_lines.Given as goal

abbrev pub invariant-loop-line : goal.invariant-loop-line
invariant-loop-line l = record {
  after : l.view.first ≤ l.line;
  text : Adds l.fn.out l.out
      (flat_map (λ k. words_text (ruled_words l.view l.height l.ruled k))
      (range_with_len l.view.first (l.line - l.view.first)));
}
