use Rattle.std.proofs.Common.{take}
use Rattle.std.specs.List.{zip}
use Rattle.draw_report.specs.Paper.{Adds}
use Rattle.draw_report.specs.Element.{all_written}
use Rattle.draw_report.specs.Picture.{row_groups}
use Rattle.draw_report.proofs.strip.put_rows.Given as goal

abbrev pub invariant-loop-place : goal.invariant-loop-place
invariant-loop-place g l =
    Adds l.fn.out l.out (all_written (row_groups l.sketch.view l.layout l.sketch.marks.now 0
    (take l.place (zip l.sketch.labels.now l.waves))))
