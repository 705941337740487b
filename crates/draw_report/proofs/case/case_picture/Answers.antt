use Rattle.std.proofs.Common.{Option, ◌≡◌, ℕ, ◌*◌, ◌≤◌, Bool, false, List, length, Some, None, sym, arith, ap, ap₂, ◌∙◌}
use Rattle.std.specs.Prelude.{◌||◌, if◌then◌else◌, nat_lt}
use Rattle.std.proofs.lemmas.Bool.Decides.{nat_tests}
use Rattle.scald_base.specs.Time.{period}
use Rattle.step_values.specs.declared.value.Value.{Value}
use Rattle.skew_algebra.specs.Wave.{Wave}
use Rattle.flat_circuit.specs.Circuit.{Circuit}
use Rattle.fixpoint_engine.specs.Waves.{Waves, waves_of}
use Rattle.draw_report.specs.declared.case.CaseHead.{CaseHead}
use Rattle.draw_report.specs.declared.mark.Mark.{Mark}
use Rattle.draw_report.specs.declared.row.Row.{Row}
use Rattle.draw_report.specs.declared.view.View.{View}
use Rattle.draw_report.specs.Picture.{are_many, are_many_runs, case_drawn, case_sketch, picture, row_sketch, row_waves}
use Rattle.draw_report.proofs.case.case_picture.Goals as goal

drawn : (c : Circuit) (ws : Waves) (head : CaseHead) (marks : List Mark) (rows : List Row)
    (some : List (Wave Value)) (count : ℕ) (text : List ℕ) (page : Option ℕ) →
    some ≡ row_waves c ws rows → count ≡ 2 * period c.header → length rows ≤ 8192 →
    are_many_runs count some ≡ false → text ≡ picture (row_sketch c rows some head marks page) →
    Some text ≡ case_drawn c ws rows head marks page
drawn c ws head marks rows some count text page waves slots few short is =
    let low : nat_lt 8192 (length rows) ≡ false = grind (arith, nat_tests) in
    let fits : are_many c ws rows ≡ false =
    ap (λ (vs : List (Wave Value)). nat_lt 8192 (length rows) || are_many_runs
    (2 * period c.header) vs) (sym waves)
    ∙ ap (λ (n : ℕ). nat_lt 8192 (length rows) || are_many_runs n some) (sym slots)
    ∙ ap₂ (λ (a b : Bool). a || b) low short in
    ap (λ (t : List ℕ). Some t)
    (is ∙ ap (λ (vs : List (Wave Value)). picture (row_sketch c rows vs head marks page)) waves)
    ∙ sym (ap (λ (t : Bool). if t then None
    else Some (picture (case_sketch c ws rows head marks page))) fits)

pub returns : goal.returns
returns g c =
    drawn c.args.c.now (waves_of c.args.waves.now) c.args.head c.args.marks.now c.args.rows.now
    c.as_slice-2.result.now c.view_of.result.count c.in_ok-bytes.bytes c.args.page
    (c.as_slice-2.ensures ∙ c.in_ok-some.ensures) (ap (λ (v : View). v.count) c.view_of.ensures.is)
    c.if-rows-gt-MOST_ROWS.false
    (ap (are_many_runs c.view_of.result.count) (c.as_slice-2.ensures ∙ sym c.as_slice.ensures)
    ∙ sym c.in_ok-are_many_runs.ensures ∙ c.if-branch.false)
    c.in_ok-bytes.ensures
