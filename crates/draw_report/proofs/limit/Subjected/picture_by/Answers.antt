use Rattle.std.proofs.Common.{length, ap, subst, sym, arith}
use Rattle.draw_report.specs.Plan.{AreThere}
use Rattle.draw_report.proofs.limit.Subjected.picture_by.Goals as goal

pub picture_in-requires-clause-there : goal.picture_in-requires-clause-there
picture_in-requires-clause-there g c =
    subst (AreThere (length c.args.self.sheet.circuit.now.nets)) (sym c.in_ok-view.ensures.rows)
    c.in_ok-add_rows.ensures

pub picture_in-requires-clause-rows : goal.picture_in-requires-clause-rows
picture_in-requires-clause-rows g c =
    let same = ap length c.in_ok-view.ensures.rows in
    omega (arith, same)
