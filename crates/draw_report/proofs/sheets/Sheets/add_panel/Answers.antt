use Rattle.std.proofs.Common.{Some}
use Rattle.std.specs.Option.{option_copied}
use Rattle.fixpoint_engine.specs.Waves.{waves_of}
use Rattle.draw_report.specs.Case.{settled_head}
use Rattle.draw_report.proofs.Drawing.{panel_pictured}
use Rattle.draw_report.proofs.sheets.Sheets.add_panel.Goals as goal

pub add_case-requires-clause-picture : goal.add_case-requires-clause-picture
add_case-requires-clause-picture g c =
    panel_pictured c.args.self.sheet.circuit.now (waves_of c.args.waves.now)
    (settled_head c.args.case.now.number c.args.case.now.tick)
    (option_copied c.args.self.under) (Some c.args.self.room)
    c.in_ok-picture.picture c.in_ok-picture.ensures
