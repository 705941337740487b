use Rattle.std.proofs.Common.{[], ◌∷◌}
use Rattle.std.proofs.lemmas.Result.{on_ok_weaker}
use Rattle.run_clauses.specs.Forms.{not_said}
use Rattle.run_clauses.proofs.Holding.{same_1, same_2}
use Rattle.run_clauses.proofs.Pushing.{added}
use Rattle.run_clauses.proofs.same.push_same.Goals as goal

pub returns : goal.returns
returns c =
    on_ok_weaker c.push-2.result
    (λ e bits same before.
    added bits c.push.new.self c.push-2.new.self
    (c.args.unless.0 ∷ c.args.unless.1 ∷ c.args.a ∷ not_said c.args.b ∷ []) (cc)
    (same_2 bits c.args.unless.0 c.args.unless.1 c.args.a c.args.b same)
    (added bits c.args.formula.now c.push.new.self
    (c.args.unless.0 ∷ c.args.unless.1 ∷ not_said c.args.a ∷ c.args.b ∷ [])
    (cc c.in_ok-push.ensures)
    (same_1 bits c.args.unless.0 c.args.unless.1 c.args.a c.args.b same) before))
    c.push-2.ensures
