use Rattle.std.proofs.Common.{◌≤◌, ◌-◌}
use Rattle.std.specs.List.{flat_map, range_with_len}
use Rattle.draw_report.specs.Paper.{Adds}
use Rattle.draw_report.specs.Element.{all_written}
use Rattle.draw_report.specs.Grid.{unit_at}
use Rattle.draw_report.proofs.grid.put_units.Given as goal

-- after what stands before them
abbrev pub invariant-loop-line : goal.invariant-loop-line
invariant-loop-line l = record {
  after : l.view.first ≤ l.line;
  text : Adds l.initial.out l.out
      (flat_map (λ k. all_written (unit_at l.view k))
      (range_with_len l.view.first (l.line - l.view.first)));
}
