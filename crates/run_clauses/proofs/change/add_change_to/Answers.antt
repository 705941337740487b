use Rattle.std.proofs.Common.{[], ◌∷◌, false, not, sym, ap, ◌∙◌}
use Rattle.std.proofs.lemmas.Result.{on_ok_weaker}
use Rattle.run_clauses.specs.declared.fact.Fact.TheVariants.{Lasts}
use Rattle.run_clauses.specs.Clauses.{clause_holds}
use Rattle.run_clauses.specs.Forms.{old_said, out_said, said}
use Rattle.run_clauses.proofs.Holding.{change_none}
use Rattle.run_clauses.proofs.Pushing.{begun, pushed}
use Rattle.run_clauses.proofs.change.add_change_to.Goals as goal

pub returns : goal.returns
returns c =
    let net = c.args.net in
    on_ok_weaker c.push.result
    (λ e bits is before.
    pushed bits c.args.formula.now c.push.new.self c.deref.result.now e
    (λ fails.
    let parts = c.in_ok-put_steps.ensures bits
    (ap (clause_holds bits) (sym c.deref.ensures.value) ∙ fails) in
    change_none bits net c.args.pins c.args.delay c.args.bit is
    (begun bits c.begin.new.some.items
    (said (Lasts net.tick) false ∷ out_said net (not c.args.bit) ∷ old_said net c.args.bit ∷ [])
    (cc c.in_ok-begin.ensures) parts.0) parts.1) before)
    c.push.ensures
