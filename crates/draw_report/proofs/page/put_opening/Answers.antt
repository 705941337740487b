use Rattle.std.proofs.Common.{◌≡◌, List, ℕ, ◌++◌, append_assoc}
use Rattle.std.specs.Prelude.{codes, decimal}
use Rattle.draw_report.specs.Element.{escaped}
use Rattle.draw_report.specs.Page.{opening_text}
use Rattle.draw_report.proofs.Texts.{adds_same}
use Rattle.draw_report.proofs.page.put_opening.Goals as goal

regrouped : (begins letter number opens line : List ℕ) →
    begins ++ (letter ++ (number ++ (opens ++ line)))
    ≡ (begins ++ (letter ++ (number ++ opens))) ++ line
regrouped begins letter number opens line = simp append_assoc

pub returns : goal.returns
returns c =
    let letter = escaped c.args.letter.now in
    let number = decimal c.args.number in
    adds_same c.args.out.now c.put.new.self
    (codes "<section id=\"" ++ (letter ++ (number ++ codes "\">\n")))
    (opening_text c.args.letter.now c.args.number)
    (regrouped (codes "<section id=\"") letter number (codes "\">") (codes "\n")) c.put.ensures
