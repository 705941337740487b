use Rattle.std.proofs.Common.{◌≡◌, ◌≤◌, take}
use Rattle.std.specs.Prelude.{count_by}
use Rattle.draw_report.specs.Mark.{is_distance}
use Rattle.draw_report.proofs.mark.distance_count.Given as goal

abbrev pub invariant-loop-mark : goal.invariant-loop-mark
invariant-loop-mark l = record {
  is : l.count ≡ count_by is_distance (take l.mark-index l.marks);
  few : l.count ≤ l.mark-index;
}
