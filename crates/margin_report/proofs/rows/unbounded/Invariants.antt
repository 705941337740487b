use Rattle.std.proofs.Common.{◌≡◌, []}
use Rattle.std.specs.List.{All, flat_map, range_with_len}
use Rattle.margin_report.specs.Report.{IsRow, rows_at}
use Rattle.margin_report.proofs.rows.unbounded.Given as goal

abbrev pub invariant-loop-number : goal.invariant-loop-number
invariant-loop-number l = (l.found ≡ flat_map (rows_at l.c []) (range_with_len 0 l.number)) × All (IsRow l.c) l.found
