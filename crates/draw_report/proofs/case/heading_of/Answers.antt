use Rattle.std.proofs.Common.{ℕ, ◌++◌, ap, ap₂, ◌∙◌}
use Rattle.std.specs.Prelude.{codes, decimal}
use Rattle.scald_base.specs.Time.{period}
use Rattle.draw_report.specs.Picture.{case_heading, case_text}
use Rattle.draw_report.proofs.Texts.{done_text}
use Rattle.draw_report.proofs.case.heading_of.Goals as goal

pub returns : goal.returns
returns c =
    done_text c.done.result c.new-out.result c.put_case.new.out c.put.new.self
    (case_text c.args.head.number)
    (decimal c.from.result ++ (codes " nets, period " ++ (decimal c.from-2.result
    ++ (codes ", two periods; holds from tick " ++ (decimal c.args.head.tick ++ codes " on")))))
    (case_heading c.args.c.now c.args.head) c.new-out.ensures.bytes c.put_case.ensures
    c.put.ensures c.done.ensures.failed c.done.ensures.bytes
    (ap₂ (λ (nets slots : ℕ). case_text c.args.head.number ++ (decimal nets
    ++ (codes " nets, period " ++ (decimal slots ++ (codes ", two periods; holds from tick "
    ++ (decimal c.args.head.tick ++ codes " on"))))))
    (c.from.ensures ∙ c.net_count.ensures)
    (c.from-2.ensures ∙ c.period.ensures.is ∙ ap period c.header.ensures))
