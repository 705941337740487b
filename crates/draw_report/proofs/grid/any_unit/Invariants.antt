use Rattle.std.proofs.Common.{◌≡◌, ◌≤◌, ◌-◌, false}
use Rattle.std.specs.List.{list_any, range_with_len}
use Rattle.draw_report.specs.Grid.{begins_unit}
use Rattle.draw_report.proofs.grid.any_unit.Given as goal

abbrev pub invariant-loop-line : goal.invariant-loop-line
invariant-loop-line l = record {
  after : l.view.first ≤ l.line;
  none : list_any (begins_unit l.view) (range_with_len l.view.first (l.line - l.view.first))
      ≡ false;
}
