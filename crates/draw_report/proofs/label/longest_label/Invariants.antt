use Rattle.std.proofs.Common.{◌≤◌}
use Rattle.draw_report.proofs.label.longest_label.Given as goal

abbrev pub invariant-loop-place : goal.invariant-loop-place
invariant-loop-place l = l.longest ≤ 40
