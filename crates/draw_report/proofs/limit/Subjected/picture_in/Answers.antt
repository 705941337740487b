use Rattle.std.proofs.Common.{◌≡◌, ◌∙◌, ℕ, ◌≤◌, ◌<◌, ◌^◌, List, length, map, ap, subst, sym, arith}
use Rattle.std.specs.Prelude.{IfSome}
use Rattle.std.proofs.lemmas.List.{length-map}
use Rattle.std.proofs.lemmas.Result.{IfOk-weaker}
use Rattle.step_values.specs.declared.value.Value.{Value}
use Rattle.skew_algebra.specs.Wave.{Wave}
use Rattle.flat_circuit.specs.Circuit.{Circuit}
use Rattle.fixpoint_engine.specs.Waves.{Waves}
use Rattle.draw_report.specs.declared.limit_picture.Account.{Account}
use Rattle.draw_report.specs.declared.mark.Mark.{Mark}
use Rattle.draw_report.specs.declared.plan.Shown.{Shown}
use Rattle.draw_report.specs.declared.view.View.{View}
use Rattle.draw_report.specs.Caption.{AreShort}
use Rattle.draw_report.specs.Mark.{AreOn}
use Rattle.draw_report.specs.Picture.{IsSketch, Sketch}
use Rattle.draw_report.specs.Plan.{AreThere, shown_text, shown_wave}
use Rattle.draw_report.specs.View.{IsView}
use Rattle.draw_report.proofs.limit.Subjected.picture_in.Goals as goal

abbrev sketch : View → Account → List (List ℕ) → List (Wave Value) → List Mark → List (List ℕ) → Sketch
sketch v account labels ws marks texts =
    record {
      view = v;
      pitch = 470;
      heading = account.heading.now;
      labels = labels;
      waves = ws;
      marks = marks;
      texts = texts;
      caption = account.lines.now;
      page = account.page;
    }

-- a label and a wave for each row that is shown, and marks on these rows
are_sketched : (v : View) (account : Account) (c : Circuit) (ws : Waves) (planned shown : List Shown)
    (labels : List (List ℕ)) (some : List (Wave Value)) (kept marks : List Mark)
    (texts : List (List ℕ)) (count : ℕ) → shown ≡ planned → labels ≡ map (shown_text c) shown →
    some ≡ map (shown_wave c ws) shown → count ≡ length shown → AreOn count kept → marks ≡ kept →
    length planned ≤ 8192 → IsView v → length account.lines.now ≤ 65536 →
    AreShort account.lines.now → IfSome account.page (λ room. room < 2 ^ 32) →
    IsSketch (sketch v account labels some marks texts)
are_sketched v account c ws planned shown labels some kept marks texts count same labelled waved
    counted on marked few view lines short room =
    let waves : length some ≡ length shown = ap length waved ∙ length-map shown (shown_wave c ws) in
    record {
      view = view;
      labels = ap length labelled ∙ length-map shown (shown_text c) ∙ sym waves;
      rows = subst (λ (n : ℕ). n ≤ 8192) (sym (waves ∙ ap length same)) few;
      pitch = omega arith;
      marks =
          subst (λ (n : ℕ). AreOn n marks) (counted ∙ sym waves)
          (subst (AreOn count) (sym marked) on);
      few_lines = lines;
      short_lines = short;
      room = room;
    }

pub shown_waves-requires-clause-there : goal.shown_waves-requires-clause-there
shown_waves-requires-clause-there g c =
    subst (AreThere (length c.args.self.sheet.circuit.now.nets)) (sym c.as_slice-shown.ensures)
    c.requires.there

pub picture_of-requires : goal.picture_of-requires
picture_of-requires g c =
    let few = c.requires.rows in
    let same = ap length c.as_slice-shown.ensures in
    are_sketched c.args.view c.args.account c.args.self.sheet.circuit.now _ c.args.plan.now.shown
    c.as_slice-shown.result.now c.as_slice-2.result.now c.as_slice-5.result.now c.in_ok-marks.marks
    c.as_slice-3.result.now c.as_slice-4.result.now _ c.as_slice-shown.ensures
    (c.as_slice-2.ensures ∙ c.in_ok-labels.ensures) (c.as_slice-5.ensures ∙ c.in_ok-some.ensures)
    (omega (arith, few, same)) c.in_ok-marks.ensures c.as_slice-3.ensures c.requires.rows c.requires.view
    c.requires.few c.requires.short c.requires.room

pub returns : goal.returns
returns g c =
    IfOk-weaker c.picture_of.result _ _
    (λ bytes is. record {
      sketch = sketch c.args.view c.args.account c.as_slice-2.result.now c.as_slice-5.result.now
          c.as_slice-3.result.now c.as_slice-4.result.now;
      is = is;
    })
    c.picture_of.ensures.is
