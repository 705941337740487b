use Rattle.std.proofs.Common.{subst, sym, ap, [], ◌∙◌}
use Rattle.std.specs.Prelude.{None}
use Rattle.fixpoint_engine.specs.Waves.{waves_of}
use Rattle.draw_report.specs.Case.{picture_in}
use Rattle.draw_report.specs.Picture.{case_drawn}
use Rattle.draw_report.specs.Row.{AreInside}
use Rattle.draw_report.proofs.Cutting.{rows_inside}
use Rattle.draw_report.proofs.sought.picture_of.Goals as goal

pub case_picture-requires-clause-inside : goal.case_picture-requires-clause-inside
case_picture-requires-clause-inside g c =
    subst (AreInside c.args.circuit.now) (sym (c.as_slice.ensures ∙ c.in_ok-rows.ensures))
    (rows_inside c.args.circuit.now (waves_of c.args.waves.now))

pub returns-in-Some : goal.returns-in-Some
returns-in-Some g c =
    ap picture_in (sym c.in-Some.is ∙ c.in_ok-bytes.ensures)
    ∙ ap (λ rows. picture_in (case_drawn c.args.circuit.now (waves_of c.args.waves.now) rows
    c.args.head [] None))
    (c.as_slice.ensures ∙ c.in_ok-rows.ensures)
