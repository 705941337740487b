use Rattle.std.proofs.lemmas.Result.{on_ok_weaker}
use Rattle.run_clauses.proofs.storage.add_taken.Goals as goal

pub returns : goal.returns
returns c =
    on_ok_weaker c.add_taken_bit-2.result
    (λ added bits is before. added bits is (c.in_ok-add_taken_bit.ensures bits is before))
    c.add_taken_bit-2.ensures
