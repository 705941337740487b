use Rattle.std.proofs.Common.{◌≡◌, map, take}
use Rattle.draw_report.specs.Row.{label}
use Rattle.draw_report.proofs.label.labels_of.Given as goal

abbrev pub invariant-loop-row : goal.invariant-loop-row
invariant-loop-row l =
    l.labels ≡ map (label l.c) (take l.row-index l.rows)
