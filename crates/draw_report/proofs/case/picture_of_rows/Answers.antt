use Rattle.std.proofs.Common.{◌≡◌, ℕ, List, [], map, Result, subst, ◌∙◌}
use Rattle.std.specs.Prelude.{IfOk, Option}
use Rattle.step_values.specs.declared.value.Value.{Value}
use Rattle.skew_algebra.specs.Wave.{Wave}
use Rattle.flat_circuit.specs.Circuit.{Circuit}
use Rattle.draw_report.specs.declared.case.CaseHead.{CaseHead}
use Rattle.draw_report.specs.declared.mark.Mark.{Mark}
use Rattle.draw_report.specs.declared.row.Row.{Row}
use Rattle.draw_report.specs.declared.view.View.{View}
use Rattle.draw_report.specs.Picture.{Sketch, case_heading, case_view, picture, row_sketch}
use Rattle.draw_report.specs.Row.{label}
use Rattle.draw_report.proofs.case.picture_of_rows.Goals as goal

abbrev sketch : View → List ℕ → List (List ℕ) → List (Wave Value) → List Mark → Option ℕ → Sketch
sketch v heading labels ws marks page =
    record {
      view = v;
      pitch = 270;
      heading = heading;
      labels = labels;
      waves = ws;
      marks = marks;
      texts = [];
      caption = [];
      page = page;
    }

pictured : {E : Type 0} (result : Result (List ℕ) E) (c : Circuit) (rows : List Row)
    (ws : List (Wave Value)) (head : CaseHead) (marks : List Mark) (v : View) (heading : List ℕ)
    (labels : List (List ℕ)) (page : Option ℕ) → v ≡ case_view c → heading ≡ case_heading c head →
    labels ≡ map (label c) rows →
    IfOk result (λ bytes. bytes ≡ picture (sketch v heading labels ws marks page)) →
    IfOk result (λ bytes. bytes ≡ picture (row_sketch c rows ws head marks page))
pictured result c rows ws head marks v heading labels page seen headed labelled is =
    subst (λ (ls : List (List ℕ)). IfOk result
    (λ bytes. bytes ≡ picture (sketch (case_view c) (case_heading c head) ls ws marks page)))
    labelled
    (subst (λ (t : List ℕ). IfOk result (λ bytes. bytes
    ≡ picture (sketch (case_view c) t labels ws marks page))) headed
    (subst (λ (u : View). IfOk result (λ bytes. bytes
    ≡ picture (sketch u heading labels ws marks page)))
    seen is))

pub returns : goal.returns
returns g c =
    pictured c.picture_of.result c.args.c.now c.args.rows.now c.args.waves.now c.args.head
    c.args.marks.now c.view_of.result c.as_slice.result.now c.as_slice-2.result.now
    c.args.page
    c.view_of.ensures.is (c.as_slice.ensures ∙ c.in_ok-heading.ensures)
    (c.as_slice-2.ensures ∙ c.in_ok-labels.ensures) c.picture_of.ensures.is
