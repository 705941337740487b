use Rattle.std.proofs.Common.{◌≡◌}
use Rattle.draw_report.proofs.way.Way.show.Given as goal

abbrev pub invariant-loop-step : goal.invariant-loop-step
invariant-loop-step g l = l.plan.shown ≡ l.fn.plan.shown
