use Rattle.std.proofs.Common.{◌≡◌, ◌++◌, [], map, take}
use Rattle.std.specs.List.{All}
use Rattle.element_kinds.specs.Kinds.{check_of}
use Rattle.margin_report.specs.Margin.{margin, parameters_in}
use Rattle.margin_report.specs.Report.{IsRow}
use Rattle.margin_report.proofs.rows.add_rows.Given as goal

-- those of the parameters so far, over no case
abbrev pub invariant-loop-parameter : goal.invariant-loop-parameter
invariant-loop-parameter l =
    (l.rows ≡ l.fn.rows ++ map (λ parameter. record { instance = l.number; parameter = parameter; margin = margin l.c [] l.number l.instance parameter })
    (take l.parameter-index (parameters_in (check_of l.instance.kind))))
    × All (IsRow l.c) l.rows
