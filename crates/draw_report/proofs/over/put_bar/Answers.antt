use Rattle.std.proofs.Common.{◌≡◌, ℕ, ◌+◌, ◌-◌, Bool, List, ◌++◌, append_assoc, ap₂, ◌∙◌}
use Rattle.std.specs.Prelude.{codes, decimal}
use Rattle.draw_report.specs.declared.paper.Paper.{Paper}
use Rattle.draw_report.specs.Element.{all_written, escaped}
use Rattle.draw_report.specs.Mark.{distance_nodes, line_class, text_class}
use Rattle.draw_report.specs.Paper.{Adds}
use Rattle.draw_report.proofs.Texts.{adds_same}
use Rattle.draw_report.proofs.over.put_bar.Goals as goal

regrouped : (front class opens from space y across to move high bar closes label style x right
    height low begin
    text ends end : List ℕ) →
    front ++ (class ++ (opens ++ (from ++ (space ++ (y ++ (across ++ (to ++ (move ++ (from
    ++ (space ++ (high ++ (bar ++ (to ++ (space ++ (high ++ ((closes ++ label) ++ (style ++ (x
    ++ (right ++ (height ++ (low ++ (begin ++ (text ++ (ends ++ end))))))))))))))))))))))))
    ≡ (front ++ (class ++ (opens ++ (from ++ (space ++ (y ++ (across ++ (to ++ (move ++ (from
    ++ (space ++ (high ++ (bar ++ (to ++ (space ++ (high ++ closes))))))))))))))))
    ++ ((label ++ (style ++ (x ++ (right ++ (height ++ (low ++ (begin ++ (text ++ ends))))))))
    ++ end)
regrouped front class opens from space y across to move high bar closes label style x right height
    low begin text ends end =
    simp append_assoc

abbrev bar : List ℕ → List ℕ → ℕ → ℕ → ℕ → List ℕ → List ℕ
bar class style from to y text =
    codes "<path class=\"" ++ (escaped class ++ (codes "\" d=\"M" ++ (decimal from ++ (codes " "
    ++ (decimal y ++ (codes "H" ++ (decimal to ++ (codes "M" ++ (decimal from ++ (codes " "
    ++ (decimal (y - 40) ++ (codes "v80M" ++ (decimal to ++ (codes " " ++ (decimal (y - 40)
    ++ (codes "v80\"/><text class=\"" ++ (escaped style ++ (codes "\" x=\"" ++ (decimal (to + 45)
    ++ (codes "\" y=\"" ++ (decimal (y + 35) ++ (codes "\">" ++ (escaped text
    ++ codes "</text>\n")))))))))))))))))))))))

bar_put : (is_bad : Bool) (class style : List ℕ) (from to y : ℕ) (text : List ℕ)
    (old new : Paper) → class ≡ line_class is_bad → style ≡ text_class is_bad →
    Adds old new (bar class style from to y text) →
    Adds old new (all_written (distance_nodes is_bad from to y text))
bar_put is_bad class style from to y text old new is_line is_text put =
    adds_same old new (bar class style from to y text)
    (all_written (distance_nodes is_bad from to y text))
    (ap₂ (λ (a b : List ℕ). bar a b from to y text) is_line is_text
    ∙ regrouped (codes "<path class=\"") (escaped (line_class is_bad)) (codes "\" d=\"M")
    (decimal from) (codes " ") (decimal y) (codes "H") (decimal to) (codes "M") (decimal (y - 40))
    (codes "v80M") (codes "v80\"/>") (codes "<text class=\"") (escaped (text_class is_bad))
    (codes "\" x=\"") (decimal (to + 45)) (codes "\" y=\"") (decimal (y + 35)) (codes "\">")
    (escaped text) (codes "</text>") (codes "\n"))
    put

pub returns : goal.returns
returns c =
    bar_put c.args.is_bad c.line_class.result.now c.text_class.result.now c.args.from c.args.to
    c.args.y c.args.text.now c.args.out.now c.put.new.self c.line_class.ensures
    c.text_class.ensures c.put.ensures
