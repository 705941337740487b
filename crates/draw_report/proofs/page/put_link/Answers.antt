use Rattle.std.proofs.Common.{◌≡◌, List, ℕ, [], ◌++◌, append_assoc, append-nil}
use Rattle.std.specs.Prelude.{codes, decimal}
use Rattle.draw_report.specs.Element.{escaped}
use Rattle.draw_report.specs.Page.{link_text}
use Rattle.draw_report.proofs.Texts.{adds_same}
use Rattle.draw_report.proofs.page.put_link.Goals as goal

regrouped : (begins number opens text ends line : List ℕ) →
    begins ++ (number ++ (opens ++ (text ++ (ends ++ line))))
    ≡ (begins ++ (number ++ (opens ++ (text ++ ends)))) ++ (line ++ [])
regrouped begins number opens text ends line = simp (append_assoc, append-nil)

pub returns : goal.returns
returns c =
    let number = decimal c.args.number in
    let text = escaped c.args.line.now in
    adds_same c.args.out.now c.put.new.self
    (codes "<a href=\"#f" ++ (number ++ (codes "\">" ++ (text ++ codes "</a>\n"))))
    (link_text c.args.number c.args.line.now)
    (regrouped (codes "<a href=\"#f") number (codes "\">") text (codes "</a>") (codes "\n"))
    c.put.ensures
