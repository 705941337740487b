use Rattle.std.proofs.lemmas.Result.{on_ok_weaker}
use Rattle.run_clauses.proofs.breaks.add_lacking_at.Goals as goal

pub returns : goal.returns
returns c =
    on_ok_weaker c.add_lacking_step-4.result
    (λ added bits is before. added bits is
    (c.in_ok-add_lacking_step-3.ensures bits is
    (c.in_ok-add_lacking_step-2.ensures bits is (c.in_ok-add_lacking_step.ensures bits is before))))
    c.add_lacking_step-4.ensures
