use Rattle.std.proofs.Common.{◌≡◌, drop}
use Rattle.draw_report.specs.Grid.{step, step_among}
use Rattle.draw_report.proofs.view.View.step.Given as goal

abbrev pub invariant-loop-step : goal.invariant-loop-step
invariant-loop-step l = step_among l.self.count (drop l.step-index l.step-items) ≡ step l.self
