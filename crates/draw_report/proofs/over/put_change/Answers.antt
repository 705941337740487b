use Rattle.std.proofs.Common.{ℕ, true, subst, ◌∙◌}
use Rattle.draw_report.specs.Element.{words_text}
use Rattle.draw_report.specs.Mark.{side_number, y_of}
use Rattle.draw_report.specs.Paper.{Adds}
use Rattle.draw_report.specs.Shape.{shape}
use Rattle.draw_report.specs.View.{scale, x_of}
use Rattle.draw_report.proofs.Paths.{adds_moved}
use Rattle.draw_report.proofs.over.put_change.Goals as goal

pub returns : goal.returns
returns c =
    let v = c.args.view in
    let at = c.args.at in
    adds_moved (side_number c.args.side) (y_of c.args.layout at.row) c.number.result c.y.result
    (shape c.args.value (record { x = x_of v at.tick; width = scale v; is_single = true }))
    c.args.out.now c.put.new.self c.put_shape.new.out c.put-2.new.self c.number.ensures
    c.y.ensures.is c.put.ensures
    (subst (λ (n : ℕ). Adds c.put.new.self c.put_shape.new.out
    (words_text (shape c.args.value (record { x = x_of v at.tick; width = n; is_single = true }))))
    (c.from.ensures ∙ c.scale.ensures.is)
    (subst (λ (n : ℕ). Adds c.put.new.self c.put_shape.new.out
    (words_text (shape c.args.value (record { x = n; width = c.from.result; is_single = true }))))
    c.x.ensures.is c.put_shape.ensures))
    c.put-2.ensures
