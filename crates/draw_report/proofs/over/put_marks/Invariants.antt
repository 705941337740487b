use Rattle.std.proofs.Common.{take}
use Rattle.std.specs.List.{flat_map}
use Rattle.draw_report.specs.Paper.{Adds}
use Rattle.draw_report.specs.Element.{all_written}
use Rattle.draw_report.specs.Mark.{mark_nodes}
use Rattle.draw_report.proofs.over.put_marks.Given as goal

abbrev pub invariant-loop-mark : goal.invariant-loop-mark
invariant-loop-mark l =
    Adds l.fn.out l.out (flat_map (λ m. all_written (mark_nodes l.view l.layout l.texts m))
    (take l.mark-index l.marks))
