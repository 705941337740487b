use Rattle.std.proofs.Common.{[], ◌∷◌, true, false}
use Rattle.std.proofs.lemmas.Result.{on_ok_weaker}
use Rattle.run_clauses.specs.declared.fact.Fact.TheVariants.{Own, Pin}
use Rattle.run_clauses.specs.Forms.{said}
use Rattle.run_clauses.proofs.Holding.{buffer_1, buffer_2}
use Rattle.run_clauses.proofs.Pushing.{added}
use Rattle.run_clauses.proofs.gates.add_buffer.Goals as goal

pub returns : goal.returns
returns c =
    on_ok_weaker c.push-2.result
    (λ e bits is before.
    added bits c.push.new.self c.push-2.new.self
    (said (Own c.args.gate.instance c.args.gate.tick) true
    ∷ said (Pin c.args.gate.instance 0 c.args.gate.tick) false ∷ []) (cc)
    (buffer_2 bits c.args.gate is) (added bits c.args.formula.now c.push.new.self
    (said (Own c.args.gate.instance c.args.gate.tick) false
    ∷ said (Pin c.args.gate.instance 0 c.args.gate.tick) true ∷ []) (cc c.in_ok-push.ensures)
    (buffer_1 bits c.args.gate is) before))
    c.push-2.ensures
