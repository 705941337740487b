use Rattle.std.proofs.Common.{◌≡◌, ℕ, Bool, true, false, ap₂, sym}
use Rattle.draw_report.specs.declared.paper.Paper.{Paper}
use Rattle.draw_report.specs.Element.{written}
use Rattle.draw_report.specs.Mark.{flag_number}
use Rattle.draw_report.specs.Paper.{Adds}
use Rattle.draw_report.proofs.Texts.{adds_same}
use Rattle.draw_report.proofs.mark.put_number.Goals as goal

number_put : (number n : ℕ) (is_link known : Bool) (old new : Paper) → n ≡ number →
    is_link ≡ known → Adds old new (written (flag_number n known)) →
    Adds old new (written (flag_number number is_link))
number_put number n is_link known old new same is put =
    adds_same old new (written (flag_number n known)) (written (flag_number number is_link))
    (ap₂ (λ (k : ℕ) (b : Bool). written (flag_number k b)) same (sym is)) put

pub returns-then-is_link : goal.returns-then-is_link
returns-then-is_link c =
    number_put c.args.number c.from.result c.args.is_link true c.args.out.now c.put.new.self
    c.from.ensures c.if-is_link.true c.put.ensures

pub returns-else-is_link : goal.returns-else-is_link
returns-else-is_link c =
    number_put c.args.number c.from.result c.args.is_link false c.args.out.now
    c.put-else-is_link.new.self c.from.ensures c.if-is_link.false c.put-else-is_link.ensures
