use Rattle.std.proofs.Common.{[], ◌∷◌, true, false, ◌-◌}
use Rattle.std.proofs.lemmas.Result.{on_ok_weaker}
use Rattle.run_clauses.specs.declared.fact.Fact.TheVariants.{Lasts}
use Rattle.run_clauses.specs.Forms.{said}
use Rattle.run_clauses.proofs.Holding.{lasts_before}
use Rattle.run_clauses.proofs.Pushing.{added}
use Rattle.run_clauses.proofs.encode.add_lasts.Goals as goal

pub returns : goal.returns
returns c =
    on_ok_weaker c.push.result
    (λ e bits is before.
    added bits c.args.formula.now c.push.new.self
    (said (Lasts c.args.tick) false ∷ said (Lasts (c.args.tick - 1)) true ∷ []) (cc)
    (lasts_before bits c.args.tick is) before)
    c.push.ensures
