use Rattle.draw_report.specs.Drawn.{AreDrawn}
use Rattle.draw_report.proofs.sheets.Sheets.add_limits.Given as goal

abbrev pub invariant-loop-place : goal.invariant-loop-place
invariant-loop-place g l = AreDrawn l.pictures
