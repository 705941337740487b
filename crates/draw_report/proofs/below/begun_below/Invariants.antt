use Rattle.std.proofs.Common.{◌≡◌, take}
use Rattle.std.specs.List.{filter}
use Rattle.draw_report.specs.Below.{is_row_below}
use Rattle.draw_report.proofs.below.begun_below.Given as goal

abbrev pub invariant-loop-row : goal.invariant-loop-row
invariant-loop-row l = l.some ≡ filter (is_row_below l.c l.path) (take l.row-index l.rows)
