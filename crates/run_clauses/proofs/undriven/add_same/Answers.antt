use Rattle.std.proofs.Common.{[], ◌∷◌, true, false}
use Rattle.std.proofs.lemmas.Result.{on_ok_weaker}
use Rattle.run_clauses.specs.declared.fact.Fact.TheVariants.{Lasts, Net}
use Rattle.run_clauses.specs.Forms.{said}
use Rattle.run_clauses.proofs.Holding.{same_at_1, same_at_2}
use Rattle.run_clauses.proofs.Pushing.{added}
use Rattle.run_clauses.proofs.undriven.add_same.Goals as goal

pub returns : goal.returns
returns c =
    on_ok_weaker c.push-2.result
    (λ e bits is before.
    added bits c.push.new.self c.push-2.new.self
    (said (Lasts c.args.input.tick) false ∷ said (Net c.args.input.net c.args.input.tick) true
    ∷ said (Net c.args.input.net c.args.tick) false ∷ []) (cc)
    (same_at_2 bits c.args.input c.args.tick is) (added bits c.args.formula.now c.push.new.self
    (said (Lasts c.args.input.tick) false ∷ said (Net c.args.input.net c.args.input.tick) false
    ∷ said (Net c.args.input.net c.args.tick) true ∷ []) (cc c.in_ok-push.ensures)
    (same_at_1 bits c.args.input c.args.tick is) before))
    c.push-2.ensures
