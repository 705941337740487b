use Rattle.std.proofs.lemmas.Result.{on_ok_weaker}
use Rattle.run_clauses.proofs.encode.explain_net.Goals as goal

pub returns-in-Some-driver : goal.returns-in-Some-driver
returns-in-Some-driver c =
    on_ok_weaker c.explain_driven.result (λ stay. stay c.args.values.now) c.explain_driven.ensures
