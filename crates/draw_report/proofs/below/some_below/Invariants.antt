use Rattle.std.proofs.Common.{◌≡◌, false}
use Rattle.std.specs.List.{list_any, range_with_len}
use Rattle.draw_report.specs.Below.{is_below}
use Rattle.draw_report.proofs.below.some_below.Given as goal

abbrev pub invariant-loop-place : goal.invariant-loop-place
invariant-loop-place l = list_any (is_below l.c l.path) (range_with_len 0 l.place) ≡ false
