use Rattle.std.proofs.Common.{List, ℕ, sym, subst}
use Rattle.draw_report.specs.declared.mark.Mark.{Mark}
use Rattle.draw_report.specs.Element.{all_written}
use Rattle.draw_report.specs.Mark.{distance, mark_nodes}
use Rattle.draw_report.specs.Paper.{Adds}
use Rattle.draw_report.proofs.over.put_mark.Goals as goal

pub returns-in-Arrow : goal.returns-in-Arrow
returns-in-Arrow c =
    subst (λ (m : Mark). Adds c.args.out.now c.put_arrow.new.out
    (all_written (mark_nodes c.args.view c.args.layout c.args.texts.now m))) (sym c.in-Arrow.is)
    c.put_arrow.ensures

pub returns-in-Distance : goal.returns-in-Distance
returns-in-Distance c =
    subst (λ (m : Mark). Adds c.args.out.now c.put_distance.new.out
    (all_written (mark_nodes c.args.view c.args.layout c.args.texts.now m))) (sym c.in-Distance.is)
    (subst (λ (t : List ℕ). Adds c.args.out.now c.put_distance.new.out
    (all_written (distance c.args.view c.args.layout c.in-Distance.span t)))
    c.text_of-in-Distance.ensures
    c.put_distance.ensures)
