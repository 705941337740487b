use Rattle.std.proofs.Common.{◌≡◌, sym, subst}
use Rattle.fixpoint_engine.specs.Waves.{waves_of}
use Rattle.draw_report.specs.Row.{AreInside, named_rows}
use Rattle.draw_report.proofs.Cutting.{named_inside}
use Rattle.draw_report.proofs.row.rows_by.Goals as goal

pub clocks_first-requires-clause-inside : goal.clocks_first-requires-clause-inside
clocks_first-requires-clause-inside g c =
    let ws = waves_of c.args.waves.now in
    let is : c.as_slice.result.now ≡ named_rows c.args.c.now ws = cc (c.in_ok-named.ensures) in
    subst (AreInside c.args.c.now) (sym is) (named_inside c.args.c.now ws)
