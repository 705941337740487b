use Rattle.std.proofs.Common.{◌≡◌, ◌++◌, take}
use Rattle.std.specs.List.{filter}
use Rattle.draw_report.specs.Row.{is_clock_row}
use Rattle.draw_report.proofs.row.add_clocks.Given as goal

abbrev pub invariant-loop-row : goal.invariant-loop-row
invariant-loop-row l =
    l.rows ≡ l.fn.rows ++ filter (is_clock_row l.c) (take l.row-index l.named)
