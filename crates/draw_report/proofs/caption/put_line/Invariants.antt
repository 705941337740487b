use Rattle.std.specs.List.{flat_map, range_with_len}
use Rattle.draw_report.specs.Paper.{Adds}
use Rattle.draw_report.specs.Element.{all_written}
use Rattle.draw_report.specs.Caption.{part_text}
use Rattle.draw_report.proofs.caption.put_line.Given as goal

abbrev pub invariant-loop-place : goal.invariant-loop-place
invariant-loop-place l =
    Adds l.fn.out l.out
    (flat_map (λ k. all_written (part_text l.y l.line k)) (range_with_len 0 l.place))
