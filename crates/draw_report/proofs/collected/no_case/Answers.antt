use Rattle.std.proofs.Common.{refl}
use Rattle.draw_report.proofs.Collecting.{none_collected}
use Rattle.draw_report.proofs.collected.no_case.Goals as goal

pub returns : goal.returns
returns c = none_collected c.args.circuit.now _ c.in_ok-rows.ensures refl
