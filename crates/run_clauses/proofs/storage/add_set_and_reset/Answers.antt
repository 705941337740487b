use Rattle.std.proofs.Common.{[], ◌∷◌, true, false}
use Rattle.std.proofs.lemmas.Result.{on_ok_weaker}
use Rattle.run_clauses.specs.declared.fact.Fact.TheVariants.{Lasts, Pin}
use Rattle.run_clauses.specs.Forms.{out_said, said}
use Rattle.run_clauses.proofs.Holding.{set_alone, reset_alone}
use Rattle.run_clauses.proofs.Pushing.{added}
use Rattle.run_clauses.proofs.storage.add_set_and_reset.Goals as goal

pub returns : goal.returns
returns c =
    on_ok_weaker c.push-2.result
    (λ e bits is before.
    added bits c.push.new.self c.push-2.new.self
    (said (Lasts c.args.storage.net.tick) false ∷ c.args.storage.unless
    ∷ said (Pin c.args.storage.net.instance 2 c.args.storage.tick) true
    ∷ said (Pin c.args.storage.net.instance 3 c.args.storage.tick) false
    ∷ out_said c.args.storage.net false ∷ []) (cc)
    (reset_alone bits c.args.storage c.requires is) (added bits c.args.formula.now c.push.new.self
    (said (Lasts c.args.storage.net.tick) false ∷ c.args.storage.unless
    ∷ said (Pin c.args.storage.net.instance 2 c.args.storage.tick) false
    ∷ said (Pin c.args.storage.net.instance 3 c.args.storage.tick) true
    ∷ out_said c.args.storage.net true ∷ []) (cc c.in_ok-push.ensures)
    (set_alone bits c.args.storage c.requires is) before))
    c.push-2.ensures
