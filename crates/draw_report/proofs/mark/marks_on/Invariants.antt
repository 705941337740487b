use Rattle.std.proofs.Common.{◌≡◌, ◌≤◌, true, length}
use Rattle.std.specs.List.{list_all}
use Rattle.draw_report.specs.Mark.{is_within}
use Rattle.draw_report.proofs.mark.marks_on.Given as goal

abbrev pub invariant-loop-mark : goal.invariant-loop-mark
invariant-loop-mark l = record {
  on : list_all (is_within l.rows) l.kept ≡ true;
  few : length l.kept ≤ 65536;
}
