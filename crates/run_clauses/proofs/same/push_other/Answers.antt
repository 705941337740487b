use Rattle.std.proofs.Common.{[], ◌∷◌, true, false}
use Rattle.std.proofs.lemmas.Result.{on_ok_weaker}
use Rattle.run_clauses.specs.Forms.{said}
use Rattle.run_clauses.proofs.Holding.{other_1, other_2, other_3, other_4}
use Rattle.run_clauses.proofs.Pushing.{added}
use Rattle.run_clauses.proofs.same.push_other.Goals as goal

pub returns : goal.returns
returns c =
    on_ok_weaker c.push-4.result
    (λ e bits is before.
    added bits c.push-3.new.self c.push-4.new.self
    (said c.args.fact true ∷ said c.args.one false ∷ said c.args.two true ∷ []) (cc)
    (other_4 bits c.args.fact c.args.one c.args.two is)
    (added bits c.push-2.new.self c.push-3.new.self
    (said c.args.fact true ∷ said c.args.one true ∷ said c.args.two false ∷ [])
    (cc c.in_ok-push-3.ensures)
    (other_3 bits c.args.fact c.args.one c.args.two is)
    (added bits c.push.new.self c.push-2.new.self
    (said c.args.fact false ∷ said c.args.one false ∷ said c.args.two false ∷ [])
    (cc c.in_ok-push-2.ensures)
    (other_2 bits c.args.fact c.args.one c.args.two is)
    (added bits c.args.formula.now c.push.new.self
    (said c.args.fact false ∷ said c.args.one true ∷ said c.args.two true ∷ [])
    (cc c.in_ok-push.ensures)
    (other_1 bits c.args.fact c.args.one c.args.two is) before))))
    c.push-4.ensures
