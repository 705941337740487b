use Rattle.std.proofs.Common.{◌≡◌, ℕ, List, [], ◌∷◌, ◌++◌, append_assoc, append-nil, refl, ap, subst, sym, ◌∙◌}
use Rattle.std.specs.Prelude.{codes, decimal}
use Rattle.step_values.specs.declared.value.Value.{Value}
use Rattle.skew_algebra.specs.Wave.{Wave}
use Rattle.draw_report.specs.declared.mark.Layout.{Layout}
use Rattle.draw_report.specs.declared.mark.Mark.{Mark}
use Rattle.draw_report.specs.declared.paper.Paper.{Paper}
use Rattle.draw_report.specs.declared.view.View.{View}
use Rattle.draw_report.specs.Element.{Group, all_written, written}
use Rattle.draw_report.specs.Mark.{y_of}
use Rattle.draw_report.specs.Paper.{Adds}
use Rattle.draw_report.specs.Picture.{label_text, moved_down, row_group, row_nodes, title}
use Rattle.draw_report.proofs.Texts.{adds_four, adds_same, adds_two}
use Rattle.draw_report.proofs.Writing.{full_some}
use Rattle.draw_report.proofs.strip.put_row.Goals as goal

regrouped : (front title label nodes closes line : List ℕ) →
    front ++ (title ++ (label ++ (nodes ++ (closes ++ line))))
    ≡ (front ++ ((title ++ (label ++ nodes)) ++ (closes ++ []))) ++ line
regrouped front title label nodes closes line = simp (append_assoc, append-nil)

abbrev front : ℕ → List ℕ
front y = codes "<g transform=\"translate(0 " ++ (decimal y ++ codes ")\">")

row_put : (v : View) (l : Layout) (marks : List Mark) (place : ℕ) (name : List ℕ)
    (w : Wave Value) (y : ℕ) (old one two three four new : Paper) → y ≡ y_of l place →
    Adds old one (front y) → Adds one two (written (title name w)) →
    Adds two three (written (label_text name)) →
    Adds three four (all_written (row_nodes v marks place w)) → Adds four new (codes "</g>\n") →
    Adds old new (all_written (row_group v l marks place name w))
row_put v l marks place name w y old one two three four new is a b c d e =
    let ns = row_nodes v marks place w in
    adds_same old new
    (front (y_of l place) ++ (written (title name w) ++ (written (label_text name)
    ++ (all_written ns ++ codes "</g>\n"))))
    (all_written (row_group v l marks place name w))
    (regrouped (front (y_of l place)) (written (title name w)) (written (label_text name))
    (all_written ns) (codes "</g>") (codes "\n")
    ∙ sym (ap (λ (t : List ℕ). t ++ codes "\n")
    (full_some Group (moved_down (y_of l place)) (title name w ∷ label_text name ∷ ns) [] refl)))
    (adds_two old one new (front (y_of l place))
    (written (title name w) ++ (written (label_text name) ++ (all_written ns ++ codes "</g>\n")))
    (subst (λ (n : ℕ). Adds old one (front n)) is a)
    (adds_four one two three four new (written (title name w)) (written (label_text name))
    (all_written ns) (codes "</g>\n") b c d e))

pub returns : goal.returns
returns g c =
    row_put c.args.sketch.now.view c.args.layout c.args.sketch.now.marks.now c.args.place
    c.args.label.now c.args.wave.now c.y.result c.args.out.now c.put.new.self c.put_title.new.out
    c.put_label.new.out c.put_nodes.new.out c.put-2.new.self c.y.ensures.is c.put.ensures
    c.put_title.ensures c.put_label.ensures c.put_nodes.ensures c.put-2.ensures
