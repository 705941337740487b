use Rattle.std.proofs.Common.{length}
use Rattle.draw_report.specs.Plan.{AreThere}
use Rattle.draw_report.proofs.way.Way.add_nets.Given as goal

abbrev pub invariant-loop-step : goal.invariant-loop-step
invariant-loop-step l = AreThere (length l.of.sheet.circuit.now.nets) l.plan.shown
