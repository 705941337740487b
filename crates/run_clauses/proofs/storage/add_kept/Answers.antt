use Rattle.std.proofs.lemmas.Result.{on_ok_weaker}
use Rattle.run_clauses.proofs.storage.add_kept.Goals as goal

pub returns : goal.returns
returns c =
    on_ok_weaker c.add_kept_bit-2.result
    (λ added bits is before. added bits is (c.in_ok-add_kept_bit.ensures bits is before))
    c.add_kept_bit-2.ensures
