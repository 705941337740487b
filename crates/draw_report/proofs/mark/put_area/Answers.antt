use Rattle.std.proofs.Common.{◌≡◌, ℕ, ◌*◌, ◌-◌, arith, ap, ap₂, ◌∙◌}
use Rattle.draw_report.specs.Mark.{after_shown, first_shown}
use Rattle.draw_report.specs.View.{x_of}
use Rattle.draw_report.proofs.Paths.{adds_area}
use Rattle.draw_report.proofs.mark.put_area.Goals as goal

pub returns-then-from-end : goal.returns-then-from-end
returns-then-from-end c =
    let v = c.args.view in
    let s = c.args.slots in
    let begin : c.max-from.result ≡ first_shown v s = omega arith in
    let last : c.min-end.result ≡ after_shown v s = omega arith in
    adds_area v c.args.class.now s c.max-from.result c.min-end.result c.x.result
    (c.from.result * c.from-then-from-end.result) c.args.out.now c.put.new.self c.put_area.new.out
    c.put-then-from-end.new.self begin last c.if-from-end.true
    (c.x.ensures.is ∙ ap (x_of v) begin)
    (ap₂ (λ (a b : ℕ). a * b) (c.from.ensures ∙ c.scale.ensures.is)
    (c.from-then-from-end.ensures ∙ ap₂ (λ (a b : ℕ). a - b) last begin))
    c.put.ensures c.put_area.ensures c.put-then-from-end.ensures
