use Rattle.std.proofs.Common.{◌∙◌, ap₂, subst, sym}
use Rattle.std.proofs.lemmas.Result.{IfOk-weaker}
use Rattle.fixpoint_engine.specs.Waves.{waves_of}
use Rattle.draw_report.specs.Picture.{case_drawn}
use Rattle.draw_report.specs.Row.{AreInside}
use Rattle.draw_report.proofs.drawn.panel_picture.Goals as goal

pub case_picture-requires-clause-inside : goal.case_picture-requires-clause-inside
case_picture-requires-clause-inside g c =
    subst (AreInside c.args.sheet.circuit.now) (sym c.as_slice-2.ensures)
    c.in_ok-strips.ensures.inside

pub returns : goal.returns
returns g c =
    IfOk-weaker c.case_picture.result _ _
    (λ drawn is. (
      c.as_slice-3.result.now,
      is ∙ ap₂ (λ rows h. case_drawn c.args.sheet.circuit.now (waves_of c.args.waves.now) rows h
          c.as_slice-3.result.now c.args.page)
          (c.as_slice-2.ensures ∙ c.in_ok-strips.ensures.is) c.head_of.ensures,
    ))
    c.case_picture.ensures
