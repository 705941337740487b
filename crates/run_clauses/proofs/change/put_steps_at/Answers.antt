use Rattle.std.proofs.Common.{true, arith, below_more}
use Rattle.run_clauses.specs.declared.fact.Fact.TheVariants.{Step}
use Rattle.run_clauses.specs.Forms.{said}
use Rattle.run_clauses.proofs.Pushing.{put_more}
use Rattle.run_clauses.proofs.change.put_steps_at.Goals as goal

pub loop-pin-init : goal.loop-pin-init
loop-pin-init c bits fails = (fails, λ p below. absurd (omega arith))

pub loop-pin-preserved : goal.loop-pin-preserved
loop-pin-preserved c bits fails =
    let parts =
    put_more bits c.loop-pin.some.items c.push.new.self.items
    (said (Step c.args.net.instance c.loop-pin.pin c.args.tick) true)
    (cc c.in_ok-push.ensures.items) fails in
    let before = c.loop-pin.invariant bits parts.0 in
    (before.0, below_more _ _ before.1 parts.1)

pub returns : goal.returns
returns c bits fails =
    let is = c.loop-pin.invariant bits fails in
    (is.0, λ p below. is.1 p (omega arith))
