use Rattle.std.proofs.Common.{◌≡◌, map, take}
use Rattle.draw_report.specs.Plan.{shown_text}
use Rattle.draw_report.proofs.plan.shown_labels.Given as goal

abbrev pub invariant-loop-one : goal.invariant-loop-one
invariant-loop-one l = l.labels ≡ map (shown_text l.c) (take l.one-index l.shown)
