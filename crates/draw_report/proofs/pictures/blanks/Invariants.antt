use Rattle.std.specs.List.{All}
use Rattle.draw_report.specs.Drawn.{IsPicture}
use Rattle.draw_report.proofs.pictures.blanks.Given as goal

abbrev pub invariant-loop-place : goal.invariant-loop-place
invariant-loop-place g l = All IsPicture l.blanks
