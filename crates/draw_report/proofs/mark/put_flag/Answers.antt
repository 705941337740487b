use Rattle.std.proofs.Common.{◌≡◌, ℕ, Bool, subst, sym}
use Rattle.std.specs.Prelude.{◌==◌}
use Rattle.std.proofs.lemmas.Bool.{eq-eqb}
use Rattle.draw_report.specs.declared.mark.Mark.{Mark}
use Rattle.draw_report.specs.declared.mark.Mark.TheVariants.{Flag}
use Rattle.draw_report.specs.declared.paper.Paper.{Paper}
use Rattle.draw_report.specs.Element.{all_written, written}
use Rattle.draw_report.specs.Mark.{flag_in, flag_number}
use Rattle.draw_report.specs.Paper.{Adds}
use Rattle.draw_report.proofs.Paths.{adds_if}
use Rattle.draw_report.proofs.mark.put_flag.Goals as goal

flag_put : (place row number : ℕ) (is_link : Bool) (mark : Mark) (old new : Paper) →
    mark ≡ Flag row number is_link → row ≡ place →
    Adds old new (written (flag_number number is_link)) →
    Adds old new (all_written (flag_in place mark))
flag_put place row number is_link mark old new is here put =
    subst (λ (m : Mark). Adds old new (all_written (flag_in place m))) (sym is)
    (adds_if (row == place) (flag_number number is_link) old new (eq-eqb row place here) put)

pub returns-then-row-place : goal.returns-then-row-place
returns-then-row-place c =
    flag_put c.args.place c.in-Flag.row c.in-Flag.number c.in-Flag.is_link c.args.mark
    c.args.out.now c.put_number.new.out c.in-Flag.is c.if-row-place.true c.put_number.ensures
