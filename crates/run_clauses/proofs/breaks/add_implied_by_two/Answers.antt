use Rattle.std.proofs.Common.{[], ◌∷◌, true, false}
use Rattle.std.proofs.lemmas.Result.{on_ok_weaker}
use Rattle.run_clauses.specs.Forms.{said}
use Rattle.run_clauses.proofs.Holding.{implied_by_two}
use Rattle.run_clauses.proofs.Pushing.{added}
use Rattle.run_clauses.proofs.breaks.add_implied_by_two.Goals as goal

pub returns : goal.returns
returns c =
    on_ok_weaker c.push.result
    (λ e bits is before.
    added bits c.args.formula.now c.push.new.self
    (said c.args.one false ∷ said c.args.two false ∷ said c.args.other true ∷ []) (cc)
    (implied_by_two bits c.args.one c.args.two c.args.other is) before)
    c.push.ensures
