use Rattle.std.proofs.Common.{◌≡◌, take}
use Rattle.std.specs.List.{flat_map}
use Rattle.draw_report.specs.Below.{parts}
use Rattle.draw_report.proofs.below.all_parts.Given as goal

abbrev pub invariant-loop-row : goal.invariant-loop-row
invariant-loop-row l = l.all ≡ flat_map (parts l.c l.path) (take l.row-index l.rows)
