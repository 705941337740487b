use Rattle.std.proofs.Common.{[], ◌∷◌, true, false}
use Rattle.std.proofs.lemmas.Result.{on_ok_weaker}
use Rattle.run_clauses.specs.Forms.{said}
use Rattle.run_clauses.proofs.Holding.{implied}
use Rattle.run_clauses.proofs.Pushing.{added}
use Rattle.run_clauses.proofs.breaks.add_implied.Goals as goal

pub returns : goal.returns
returns c =
    on_ok_weaker c.push.result
    (λ e bits is before.
    added bits c.args.formula.now c.push.new.self
    (said c.args.fact false ∷ said c.args.other true ∷ []) (cc)
    (implied bits c.args.fact c.args.other true is) before)
    c.push.ensures
