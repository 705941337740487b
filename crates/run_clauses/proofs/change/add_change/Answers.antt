use Rattle.std.proofs.lemmas.Result.{on_ok_weaker}
use Rattle.run_clauses.proofs.change.add_change.Goals as goal

pub returns : goal.returns
returns c =
    on_ok_weaker c.add_change_to-2.result
    (λ added bits is before. added bits is (c.in_ok-add_change_to.ensures bits is before))
    c.add_change_to-2.ensures
