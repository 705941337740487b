use Rattle.std.proofs.Common.{◌≡◌, ℕ, ◌+◌, ◌*◌, ◌/◌, true, List, ◌++◌, ap₂, sym, ◌∙◌}
use Rattle.std.specs.Prelude.{codes, decimal}
use Rattle.draw_report.specs.declared.paper.Paper.{Paper}
use Rattle.draw_report.specs.declared.view.View.{View}
use Rattle.draw_report.specs.Element.{all_written, written}
use Rattle.draw_report.specs.Grid.{begins_unit, number_at, phase, unit_at}
use Rattle.draw_report.specs.Paper.{Adds}
use Rattle.draw_report.specs.View.{scale, x_of}
use Rattle.draw_report.proofs.Paths.{adds_if}
use Rattle.draw_report.proofs.Texts.{adds_same}
use Rattle.draw_report.proofs.grid.put_unit.Goals as goal

abbrev unit : ℕ → ℕ → List ℕ
unit x n =
    codes "<text class=\"q m\" x=\"" ++ (decimal x ++ (codes "\" y=\"-170\">" ++ (decimal n
    ++ codes "</text>")))

unit_put : (v : View) (line x n : ℕ) (old new : Paper) →
    x ≡ x_of v line + (scale v * v.unit) / 2 → n ≡ phase v line / v.unit →
    begins_unit v line ≡ true → Adds old new (unit x n) →
    Adds old new (all_written (unit_at v line))
unit_put v line x n old new is_x is_n begins put =
    adds_if (begins_unit v line)
    (number_at (x_of v line + (scale v * v.unit) / 2) (codes "-170") (phase v line / v.unit)) old
    new begins
    (adds_same old new (unit x n)
    (written (number_at (x_of v line + (scale v * v.unit) / 2) (codes "-170")
    (phase v line / v.unit)))
    (ap₂ unit is_x is_n) put)

pub returns-then-begins_unit : goal.returns-then-begins_unit
returns-then-begins_unit c =
    unit_put c.args.view c.args.line
    (c.x.result + (c.from.result * c.from-then-begins_unit.result) / 2)
    c.from-then-begins_unit-3.result c.args.out.now c.put.new.self
    (ap₂ (λ (a b : ℕ). a + b / 2) c.x.ensures.is
    (ap₂ (λ (a b : ℕ). a * b) (c.from.ensures ∙ c.scale.ensures.is)
    c.from-then-begins_unit.ensures))
    (c.from-then-begins_unit-3.ensures
    ∙ ap₂ (λ (a b : ℕ). a / b) c.phase.ensures c.from-then-begins_unit-2.ensures)
    (sym c.begins_unit.ensures ∙ c.if-begins_unit.true) c.put.ensures
