use Rattle.std.proofs.Common.{[], ◌∷◌, false}
use Rattle.std.proofs.lemmas.Result.{on_ok_weaker}
use Rattle.run_clauses.specs.Forms.{said}
use Rattle.run_clauses.specs.Meaning.{shown_before}
use Rattle.run_clauses.proofs.Holding.{implied}
use Rattle.run_clauses.proofs.Pushing.{added}
use Rattle.run_clauses.proofs.breaks.add_showed.Goals as goal

pub returns : goal.returns
returns c =
    on_ok_weaker c.push.result
    (λ e bits is before.
    added bits c.args.formula.now c.push.new.self
    (said c.args.fact false ∷ said (shown_before c.args.at) c.args.bit ∷ []) (cc)
    (implied bits c.args.fact (shown_before c.args.at) c.args.bit is) before)
    c.push.ensures
