use Rattle.std.proofs.Common.{[], ◌∷◌, false, not}
use Rattle.std.proofs.lemmas.Result.{on_ok_weaker}
use Rattle.run_clauses.specs.Forms.{said}
use Rattle.run_clauses.specs.Meaning.{shown_at, shown_before}
use Rattle.run_clauses.proofs.Holding.{not_both}
use Rattle.run_clauses.proofs.Pushing.{added}
use Rattle.run_clauses.proofs.breaks.add_leaves.Goals as goal

pub returns : goal.returns
returns c =
    on_ok_weaker c.push.result
    (λ e bits is before.
    added bits c.args.formula.now c.push.new.self
    (said c.args.fact false ∷ said (shown_before c.args.at) (not c.args.bit)
    ∷ said (shown_at c.args.at) (not c.args.bit) ∷ []) (cc)
    (not_both bits c.args.fact (shown_before c.args.at) (shown_at c.args.at) c.args.bit c.args.bit
    (λ fact was here. is fact (was, here))) before)
    c.push.ensures
