use Rattle.std.proofs.lemmas.Result.{on_ok_weaker}
use Rattle.run_clauses.proofs.pins.explain_step.Goals as goal

pub returns : goal.returns
returns c =
    on_ok_weaker c.push_other.result (λ adds bits is before. adds bits (let same = is in cc) before)
    c.push_other.ensures
