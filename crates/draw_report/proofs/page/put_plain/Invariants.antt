use Rattle.std.proofs.Common.{take}
use Rattle.std.specs.List.{flat_map}
use Rattle.draw_report.specs.Element.{all_written}
use Rattle.draw_report.specs.Page.{line_nodes}
use Rattle.draw_report.specs.Paper.{Adds}
use Rattle.draw_report.proofs.page.put_plain.Given as goal

abbrev pub invariant-loop-line : goal.invariant-loop-line
invariant-loop-line l =
    Adds l.initial.out l.out
    (flat_map (λ t. all_written (line_nodes t)) (take l.line-index l.lines))
