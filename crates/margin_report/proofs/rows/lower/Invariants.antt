use Rattle.std.proofs.Common.{◌≡◌, length}
use Rattle.std.specs.List.{All}
use Rattle.fixpoint_engine.specs.Waves.{waves_of}
use Rattle.margin_report.specs.Report.{IsRow}
use Rattle.margin_report.proofs.RowByRow.{IsLoweredTo}
use Rattle.margin_report.proofs.rows.lower.Given as goal

-- as many rows, of which those before the place are over one case more
abbrev pub invariant-loop-place : goal.invariant-loop-place
invariant-loop-place g l = record {
  count : length l.rows ≡ length l.fn.rows;
  rows : All (IsRow l.c) l.rows;
  lowered : IsLoweredTo l.c l.case (waves_of l.waves) l.fn.rows l.place l.rows;
}
