use Rattle.std.proofs.Common.{ℕ, List, ◌++◌, ap, sym}
use Rattle.std.specs.Prelude.{codes}
use Rattle.draw_report.specs.Element.{words_text, written}
use Rattle.draw_report.specs.Picture.{label_text}
use Rattle.draw_report.specs.Row.{shown}
use Rattle.draw_report.proofs.Texts.{adds_same, adds_three, words_rest}
use Rattle.draw_report.proofs.strip.put_label.Goals as goal

pub returns : goal.returns
returns c =
    let front = codes "<text class=\"e\" x=\"-60\" y=\"160\">" in
    let name = shown c.args.label.now in
    adds_same c.args.out.now c.put-2.new.self (front ++ (words_text name ++ codes "</text>"))
    (written (label_text c.args.label.now))
    (ap (λ (l : List ℕ). front ++ l) (sym (words_rest name (codes "</text>"))))
    (adds_three c.args.out.now c.put.new.self c.put_shown.new.out c.put-2.new.self front
    (words_text name) (codes "</text>") c.put.ensures c.put_shown.ensures c.put-2.ensures)
