use Rattle.std.specs.Prelude.{IfSome, Option}
use Rattle.std.proofs.Common.{ℕ, List, subst}
use Rattle.std.proofs.lemmas.Result.{on_ok_weaker}
use Rattle.draw_report.specs.Drawn.{IsPicture}
use Rattle.draw_report.proofs.Filling.{all_more}
use Rattle.draw_report.proofs.pictures.Pictures.add_case.Goals as goal

pub returns-in-Some : goal.returns-in-Some
returns-in-Some c =
    on_ok_weaker c.push.result
    (λ is. record {
      limits = c.requires.drawn.limits;
      cases = all_more IsPicture c.args.self.now.cases c.push.new.self c.in-Some.bytes
          c.requires.drawn.cases
          (subst (λ (p : Option (List ℕ)). IfSome p IsPicture) c.in-Some.is c.requires.picture) is;
    })
    c.push.ensures.ok
