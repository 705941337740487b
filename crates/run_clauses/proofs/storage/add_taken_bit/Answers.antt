use Rattle.std.proofs.Common.{[], ◌∷◌, false, not}
use Rattle.std.proofs.lemmas.Result.{on_ok_weaker}
use Rattle.run_clauses.specs.declared.fact.Fact.TheVariants.{Lasts, Pin}
use Rattle.run_clauses.specs.Forms.{forced_said, out_said, said}
use Rattle.run_clauses.proofs.Holding.{taken}
use Rattle.run_clauses.proofs.Pushing.{added}
use Rattle.run_clauses.proofs.storage.add_taken_bit.Goals as goal

pub returns : goal.returns
returns c =
    on_ok_weaker c.push.result
    (λ e bits is before.
    added bits c.args.formula.now c.push.new.self
    (said (Lasts c.args.storage.net.tick) false ∷ c.args.storage.unless
    ∷ forced_said c.args.storage 2 ∷ forced_said c.args.storage 3 ∷ c.args.one ∷ c.args.two
    ∷ out_said c.args.storage.net (not c.args.bit)
    ∷ said (Pin c.args.storage.net.instance 1 c.args.storage.tick) c.args.bit ∷ []) (cc)
    (taken bits c.args.storage c.args.one c.args.two c.args.bit is) before)
    c.push.ensures
