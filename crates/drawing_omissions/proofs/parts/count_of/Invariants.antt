use Rattle.std.proofs.Common.{◌≡◌, ◌≤◌}
use Rattle.std.specs.List.{count_by, range_with_len}
use Rattle.drawing_omissions.specs.Open.{is_new}
use Rattle.drawing_omissions.proofs.parts.count_of.Given as goal

abbrev pub invariant-loop-place : goal.invariant-loop-place
invariant-loop-place l = record {
  counted : l.count ≡ count_by (is_new l.cases l.entries) (range_with_len 0 l.place);
  few : l.count ≤ l.place;
}
