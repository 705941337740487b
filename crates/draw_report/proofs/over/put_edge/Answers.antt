use Rattle.std.proofs.Common.{◌≡◌, ℕ, ◌+◌, ◌-◌, Bool, true, List, [], ◌∷◌, ◌++◌, append_assoc, ap, ap₂, sym, ◌∙◌}
use Rattle.std.specs.Prelude.{codes, decimal, if◌then◌else◌, max, min}
use Rattle.draw_report.specs.declared.mark.Layout.{Layout}
use Rattle.draw_report.specs.declared.paper.Paper.{Paper}
use Rattle.draw_report.specs.declared.view.View.{View}
use Rattle.draw_report.specs.Element.{Break, Chars, Number, all_written}
use Rattle.draw_report.specs.Mark.{edge_path, has_line, y_of}
use Rattle.draw_report.specs.Paper.{Adds}
use Rattle.draw_report.specs.View.{line_x}
use Rattle.draw_report.specs.Wave.{path}
use Rattle.draw_report.proofs.Texts.{adds_same}
use Rattle.draw_report.proofs.over.put_edge.Goals as goal

regrouped : (front x to a down b end line : List ℕ) →
    front ++ (x ++ (to ++ (a ++ (down ++ (b ++ (end ++ line))))))
    ≡ (front ++ (x ++ (to ++ (a ++ (down ++ (b ++ end)))))) ++ line
regrouped front x to a down b end line = simp append_assoc

abbrev edge : ℕ → ℕ → ℕ → List ℕ
edge x a b =
    codes "<path class=\"edge\" d=\"M" ++ (decimal x ++ (codes " " ++ (decimal a ++ (codes "V"
    ++ (decimal b ++ codes "\"/>\n")))))

edge_put : (v : View) (l : Layout) (tick row other x a b : ℕ) (old new : Paper) →
    x ≡ line_x v tick → a ≡ y_of l (min row other) - 20 → b ≡ y_of l (max row other) + 260 →
    has_line v tick ≡ true → Adds old new (edge x a b) →
    Adds old new (all_written (edge_path v l tick row other))
edge_put v l tick row other x a b old new is_x is_a is_b has put =
    adds_same old new (edge x a b) (all_written (edge_path v l tick row other))
    (ap (λ (n : ℕ). edge n a b) is_x ∙ ap₂ (λ (m n : ℕ). edge (line_x v tick) m n) is_a is_b
    ∙ regrouped (codes "<path class=\"edge\" d=\"M") (decimal (line_x v tick)) (codes " ")
    (decimal (y_of l (min row other) - 20)) (codes "V") (decimal (y_of l (max row other) + 260))
    (codes "\"/>") (codes "\n")
    ∙ sym (ap (λ (t : Bool). all_written (if t then path (Chars (codes "edge") ∷ [])
    (Chars (codes "M") ∷ Number (line_x v tick) ∷ Chars (codes " ")
    ∷ Number (y_of l (min row other) - 20) ∷ Chars (codes "V")
    ∷ Number (y_of l (max row other) + 260) ∷ []) ∷ Break ∷ [] else [])) has))
    put

pub returns-then-has_line : goal.returns-then-has_line
returns-then-has_line c =
    edge_put c.args.view c.args.layout c.args.tick c.args.row c.args.other c.line_x.result
    (c.y.result - 20) (c.y-then-has_line.result + 260) c.args.out.now c.put.new.self
    c.line_x.ensures.is
    (ap (λ (n : ℕ). n - 20) (c.y.ensures.is ∙ ap (y_of c.args.layout) c.min.ensures))
    (ap (λ (n : ℕ). n + 260) (c.y-then-has_line.ensures.is ∙ ap (y_of c.args.layout) c.max.ensures))
    (sym c.has_line.ensures ∙ c.if-has_line.true) c.put.ensures
