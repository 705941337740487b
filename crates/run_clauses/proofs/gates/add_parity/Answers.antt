use Rattle.std.proofs.Common.{[], ◌∷◌, true, false, arith}
use Rattle.std.proofs.lemmas.Result.{on_ok_weaker}
use Rattle.run_clauses.specs.declared.fact.Fact.TheVariants.{Own, Parity}
use Rattle.run_clauses.specs.Forms.{said}
use Rattle.run_clauses.proofs.Holding.{parity_1, parity_2, parity_last}
use Rattle.run_clauses.proofs.Pushing.{added}
use Rattle.run_clauses.proofs.gates.add_parity.Goals as goal

pub loop-pin-init : goal.loop-pin-init
loop-pin-init c bits is before = before

pub loop-pin-preserved : goal.loop-pin-preserved
loop-pin-preserved c bits is before =
    c.in_ok-push_other.ensures bits (let next = is.next c.loop-pin.pin (omega arith) in cc)
    (c.loop-pin.invariant bits is before)

pub returns : goal.returns
returns c =
    let g = c.args.gate in
    on_ok_weaker c.push-3.result
    (λ e bits is before.
    added bits c.push-2.new.self c.push-3.new.self
    (said (Own g.instance g.tick) true ∷ said (Parity g.instance 0 g.tick) false ∷ []) (cc)
    (parity_2 bits g is)
    (added bits c.push.new.self c.push-2.new.self
    (said (Own g.instance g.tick) false ∷ said (Parity g.instance 0 g.tick) true ∷ [])
    (cc c.in_ok-push-2.ensures) (parity_1 bits g is)
    (added bits c.loop-pin.formula c.push.new.self
    (said (Parity g.instance g.pins g.tick) false ∷ []) (cc c.in_ok-push.ensures)
    (parity_last bits g is) (c.loop-pin.invariant bits is before))))
    c.push-3.ensures
