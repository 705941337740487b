use Rattle.std.proofs.Common.{take}
use Rattle.std.specs.List.{flat_map}
use Rattle.draw_report.specs.Paper.{Adds}
use Rattle.draw_report.specs.Element.{all_written}
use Rattle.draw_report.specs.Mark.{flag_in}
use Rattle.draw_report.proofs.mark.put_numbers.Given as goal

abbrev pub invariant-loop-mark : goal.invariant-loop-mark
invariant-loop-mark l =
    Adds l.fn.out l.out (flat_map (λ m. all_written (flag_in l.place m))
    (take l.mark-index l.marks))
