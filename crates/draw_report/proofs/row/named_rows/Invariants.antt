use Rattle.std.proofs.Common.{◌≡◌, ◌-◌, ◌++◌, length}
use Rattle.fixpoint_engine.specs.Waves.{waves_of}
use Rattle.draw_report.specs.Row.{cut, joins, named_rows}
use Rattle.draw_report.proofs.row.named_rows.Given as goal

-- what is found, and what is cut from the row on, are all
abbrev pub invariant-loop-place : goal.invariant-loop-place
invariant-loop-place g l =
    l.rows ++ cut (joins l.c (waves_of l.waves)) l.from l.place (length l.c.nets - l.place)
    ≡ named_rows l.c (waves_of l.waves)
