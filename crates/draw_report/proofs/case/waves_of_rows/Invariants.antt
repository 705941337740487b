use Rattle.std.proofs.Common.{◌≡◌, map, take}
use Rattle.fixpoint_engine.specs.Waves.{waves_of}
use Rattle.draw_report.specs.Picture.{wave_of}
use Rattle.draw_report.proofs.case.waves_of_rows.Given as goal

abbrev pub invariant-loop-row : goal.invariant-loop-row
invariant-loop-row g l =
    l.some ≡ map (wave_of l.c (waves_of l.waves)) (take l.row-index l.rows)
